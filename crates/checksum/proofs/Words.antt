-- What the register takes in: octets, words of eight, and long parts. Assumes nothing.
use mathlib.Core.Path.{◌≡◌, refl, sym, ap, ap₂, ◌∙◌}
use mathlib.Core.List.{List, [], ◌∷◌, ◌++◌}
use Prim.Native.Nat.{ℕ, suc, ◌+◌, ◌-◌, ◌*◌, ◌^◌, ◌<◌, ◌≤◌}
use native.Mathlib.Nat.{zero-add, zero-mul}
use native.Mathlib.Numerals.{add-one}
use native.Mathlib.Omega.{arith}
use lib.Bits.{bit_xor, xor_comm, xor_zero_r, xor_block, xor_lt}
use lib.Dec.{lit<}
use lib.ListN.{length, get_or, take, drop, length-drop, take-append-drop}
use lib.Seq.{drop-cons, drop-drop, length-take-le, take_all}
use Rattle.checksum.specs.V42.{content}
use Rattle.checksum.specs.Register.{steps, value_of, register_after, wide_register}
use Rattle.checksum.proofs.Xor.{xor_assoc}
use Rattle.checksum.proofs.Steps.{steps-xor, steps-over}
use Rattle.checksum.proofs.Definition.{register-append}
use Rattle.checksum.proofs.Octets.{length-content, value-octet}

-- ---- words

pub register-xor : (a b : ℕ) (l : List ℕ) → register_after (bit_xor a b) l ≡ bit_xor (steps (8 * length l) a) (register_after b l)
unfolding register_after
register-xor a b l =
    ap (steps (length (content l))) (xor_assoc a b (value_of l))
    ∙ steps-xor (length (content l)) a (bit_xor b (value_of l))
    ∙ ap (λ (n : ℕ). bit_xor (steps n a) (steps (length (content l)) (bit_xor b (value_of l)))) (length-content l)

-- a word of 64 bits of the register, and eight octets
register-word : (a n : ℕ) (xs : List ℕ) → length xs ≡ 8 → n < 2 ^ 64
    → register_after (a * 2 ^ 64 + n) xs ≡ bit_xor (steps 64 (bit_xor (value_of xs) n)) a
unfolding register_after
register-word a n xs e h =
    ap (λ (k : ℕ). steps k (bit_xor (a * 2 ^ 64 + n) (value_of xs))) (length-content xs ∙ ap (λ (k : ℕ). 8 * k) e)
    ∙ ap (steps 64) (xor_comm (a * 2 ^ 64 + n) (value_of xs))
    ∙ steps-over 64 (value_of xs) a n h

drop-part : (s : List ℕ) (i k : ℕ) → drop i s ≡ take k (drop i s) ++ drop (i + k) s
drop-part s i k = sym (take-append-drop k (drop i s)) ∙ ap (λ (l : List ℕ). take k (drop i s) ++ l) (drop-drop k i s)

length_part : (s : List ℕ) (i k : ℕ) → i + k ≤ length s → length (take k (drop i s)) ≡ k
length_part s i k h = length-take-le k (drop i s) (omega (arith, length-drop i s))

pub word_in : (s : List ℕ) (i a n : ℕ) → i + 8 ≤ length s → n < 2 ^ 64
    → register_after (a * 2 ^ 64 + n) (drop i s) ≡ register_after (bit_xor (steps 64 (bit_xor (value_of (take 8 (drop i s))) n)) a) (drop (i + 8) s)
word_in s i a n h hn =
    ap (register_after (a * 2 ^ 64 + n)) (drop-part s i 8)
    ∙ register-append (a * 2 ^ 64 + n) (take 8 (drop i s)) (drop (i + 8) s)
    ∙ ap (λ (r : ℕ). register_after r (drop (i + 8) s)) (register-word a n (take 8 (drop i s)) (length_part s i 8 h) hn)

-- what came out is added to the word that is then the lowest
xor-into-low : (r a n : ℕ) → r < 2 ^ 64 → n < 2 ^ 64 → bit_xor r (a * 2 ^ 64 + n) ≡ a * 2 ^ 64 + bit_xor n r
xor-into-low r a n hr hn =
    xor_comm r (a * 2 ^ 64 + n)
    ∙ ap (bit_xor (a * 2 ^ 64 + n)) (sym (ap (λ (x : ℕ). x + r) (zero-mul (2 ^ 64)) ∙ zero-add r))
    ∙ xor_block 64 a 0 n r hn hr
    ∙ ap (λ (x : ℕ). x * 2 ^ 64 + bit_xor n r) (xor_zero_r a)

-- ---- octets one at a time

pub register-none : (c : ℕ) → register_after c [] ≡ c
unfolding register_after steps
register-none c = xor_zero_r c

register-octet : (c b : ℕ) → b < 256 → register_after c (b ∷ []) ≡ steps 8 (bit_xor c b)
unfolding register_after
register-octet c b h = ap₂ (λ (n x : ℕ). steps n (bit_xor c x)) (length-content (b ∷ [])) (value-octet b [] h ∙ (omega arith))

pub octet-in : (s : List ℕ) (k c : ℕ) → k < length s → get_or s k 0 < 256
    → register_after c (drop k s) ≡ register_after (steps 8 (bit_xor c (get_or s k 0))) (drop (k + 1) s)
octet-in s k c h hb =
    ap (register_after c) (drop-cons s k 0 h)
    ∙ register-append c (get_or s k 0 ∷ []) (drop (suc k) s)
    ∙ ap₂ (λ (x n : ℕ). register_after x (drop n s)) (register-octet c (get_or s k 0) hb) (sym (add-one k))

-- ---- five words at the end

next_word : (s : List ℕ) (i j a n r q : ℕ) → j ≡ i + 8 → j ≤ length s → n < 2 ^ 64 → r < 2 ^ 64
    → q ≡ steps 64 (bit_xor (value_of (take 8 (drop i s))) (bit_xor n r))
    → register_after (bit_xor r (a * 2 ^ 64 + n)) (drop i s) ≡ register_after (bit_xor q a) (drop j s)
next_word s i j a n r q e h hn hr p =
    ap (λ (x : ℕ). register_after x (drop i s)) (xor-into-low r a n hr hn)
    ∙ word_in s i a (bit_xor n r) (omega arith) (xor_lt 64 n r hn hr)
    ∙ ap₂ (λ (x k : ℕ). register_after (bit_xor x a) (drop k s)) (sym p) (sym e)

pub eight-in : (s : List ℕ) (i r q : ℕ) → i + 8 ≤ length s → r < 2 ^ 32
    → q ≡ steps 64 (bit_xor (value_of (take 8 (drop i s))) (bit_xor 0 r))
    → register_after r (drop i s) ≡ register_after q (drop (i + 8) s)
eight-in s i r q h hr p =
    ap (λ (x : ℕ). register_after x (drop i s)) (sym (xor_zero_r r))
    ∙ next_word s i (i + 8) 0 0 r q refl h (lit< tt) (omega arith) p
    ∙ ap (λ (x : ℕ). register_after x (drop (i + 8) s)) (xor_zero_r q)

pub narrowed-in : (s : List ℕ) (i n1 n2 n3 n4 n5 r1 r2 r3 r4 r5 : ℕ) → i + 40 ≤ length s
    → n1 < 2 ^ 64 → n2 < 2 ^ 64 → n3 < 2 ^ 64 → n4 < 2 ^ 64 → n5 < 2 ^ 64 → r1 < 2 ^ 32 → r2 < 2 ^ 32 → r3 < 2 ^ 32 → r4 < 2 ^ 32
    → r1 ≡ steps 64 (bit_xor (value_of (take 8 (drop i s))) (bit_xor n1 0))
    → r2 ≡ steps 64 (bit_xor (value_of (take 8 (drop (i + 8) s))) (bit_xor n2 r1))
    → r3 ≡ steps 64 (bit_xor (value_of (take 8 (drop (i + 16) s))) (bit_xor n3 r2))
    → r4 ≡ steps 64 (bit_xor (value_of (take 8 (drop (i + 24) s))) (bit_xor n4 r3))
    → r5 ≡ steps 64 (bit_xor (value_of (take 8 (drop (i + 32) s))) (bit_xor n5 r4))
    → register_after (wide_register n1 n2 n3 n4 n5) (drop i s) ≡ register_after r5 (drop (i + 40) s)
unfolding wide_register
narrowed-in s i n1 n2 n3 n4 n5 r1 r2 r3 r4 r5 h h1 h2 h3 h4 h5 k1 k2 k3 k4 p1 p2 p3 p4 p5 =
    let top : n5 ≡ 0 * 2 ^ 64 + n5 = omega arith in
    next_word s i (i + 8) (((n5 * 2 ^ 64 + n4) * 2 ^ 64 + n3) * 2 ^ 64 + n2) n1 0 r1 refl (omega arith) h1 (lit< tt) p1
    ∙ next_word s (i + 8) (i + 16) ((n5 * 2 ^ 64 + n4) * 2 ^ 64 + n3) n2 r1 r2 (omega arith) (omega arith) h2 (omega arith) p2
    ∙ next_word s (i + 16) (i + 24) (n5 * 2 ^ 64 + n4) n3 r2 r3 (omega arith) (omega arith) h3 (omega arith) p3
    ∙ next_word s (i + 24) (i + 32) n5 n4 r3 r4 (omega arith) (omega arith) h4 (omega arith) p4
    ∙ ap (λ (x : ℕ). register_after (bit_xor r4 x) (drop (i + 32) s)) top
    ∙ next_word s (i + 32) (i + 40) 0 n5 r4 r5 (omega arith) (omega arith) h5 (omega arith) p5
    ∙ ap (λ (x : ℕ). register_after x (drop (i + 40) s)) (xor_zero_r r5)

-- ---- parts of a slice

pub chunk_in : (s : List ℕ) (i n r q : ℕ) → q ≡ register_after r (take (i + n - i) (drop i s)) → register_after r (drop i s) ≡ register_after q (drop (i + n) s)
chunk_in s i n r q p =
    let e : i + n - i ≡ n = omega arith in
    ap (register_after r) (drop-part s i n) ∙ register-append r (take n (drop i s)) (drop (i + n) s)
    ∙ ap (λ (x : ℕ). register_after x (drop (i + n) s)) (sym (p ∙ ap (λ (k : ℕ). register_after r (take k (drop i s))) e))

pub rest_in : (s : List ℕ) (i r q : ℕ) → q ≡ register_after r (take (length s - i) (drop i s)) → q ≡ register_after r (drop i s)
rest_in s i r q p = p ∙ ap (register_after r) (take_all (length s - i) (drop i s) (omega (arith, length-drop i s)))
