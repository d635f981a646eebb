-- Octets read as numbers. Assumes nothing.
use mathlib.Core.Path.{◌≡◌, refl, sym, ap, ap₂, ◌∙◌, subst}
use mathlib.Core.List.{List, [], ◌∷◌, ◌++◌}
use Prim.Native.Nat.{ℕ, zero, suc, ◌+◌, ◌*◌, ◌/◌, ◌%◌, ◌^◌, ◌<◌, ◌≤◌}
use native.Mathlib.Nat.{mod-lt, mod-one, mod-eq_of_lt, pow-suc, le_of_suc-le-suc, not-suc-le-zero}
use native.Mathlib.Numerals.{towards_suc}
use native.Mathlib.Omega.{arith}
use lib.Arith.{mod-mul}
use lib.Bits.{bit_or, or_shifted_r}
use lib.Dec.{eqb, lit<}
use lib.ListN.{length, get_or, take, drop, length-append}
use lib.Pow.{pow_pos}
use lib.Seq.{drop-cons}
use Rattle.checksum.specs.V42.{content, bits_of, number}
use Rattle.lists.specs.Cases.{flag}
use Rattle.checksum.specs.Register.{value_of}
use Rattle.checksum.proofs.Definition.{number_append, number_lt, content-append}

-- ---- octets as numbers

flag-odd : (r : ℕ) → r < 2 → flag (eqb r 1) ≡ r
flag-odd zero h = refl
flag-odd (suc zero) h = refl
flag-odd (suc (suc r)) h = absurd (not-suc-le-zero (le_of_suc-le-suc (le_of_suc-le-suc h)))

number-bits : (k x : ℕ) → number (bits_of k x) ≡ x % 2 ^ k
number-bits zero x = sym (mod-one x)
number-bits (suc k) x =
    ap₂ (λ (a b : ℕ). a * 2 + b) (number-bits k (x / 2)) (flag-odd (x % 2) (mod-lt x (lit< tt)))
    ∙ sym (ap (λ (n : ℕ). x % n) (pow-suc 2 k) ∙ mod-mul x (pow_pos k) (lit< tt))

length-bits : (k x : ℕ) → length (bits_of k x) ≡ k
length-bits zero x = refl
length-bits (suc k) x = ap suc (length-bits k (x / 2))

pub length-content : (l : List ℕ) → length (content l) ≡ 8 * length l
length-content [] = refl
length-content (b ∷ l) = omega (arith, length-append (bits_of 8 b) (content l), length-bits 8 b, length-content l)

pub value-cons : (b : ℕ) (l : List ℕ) → value_of (b ∷ l) ≡ value_of l * 256 + b % 256
value-cons b l = number_append (bits_of 8 b) (content l) ∙ ap (λ (x : ℕ). value_of l * 256 + x) (number-bits 8 b)

pub value-octet : (b : ℕ) (l : List ℕ) → b < 256 → value_of (b ∷ l) ≡ value_of l * 256 + b
value-octet b l h = value-cons b l ∙ ap (λ (x : ℕ). value_of l * 256 + x) (mod-eq_of_lt h)

pub value-append : (xs ys : List ℕ) → value_of (xs ++ ys) ≡ value_of ys * 2 ^ (8 * length xs) + value_of xs
value-append xs ys =
    ap number (content-append xs ys) ∙ number_append (content xs) (content ys)
    ∙ ap (λ (n : ℕ). value_of ys * 2 ^ n + value_of xs) (length-content xs)

pub value-lt : (l : List ℕ) (k : ℕ) → length l ≡ k → value_of l < 2 ^ (8 * k)
value-lt l k e = subst (λ (n : ℕ). value_of l < 2 ^ n) (length-content l ∙ ap (λ (n : ℕ). 8 * n) e) (number_lt (content l))

-- ---- a word read from eight octets

or-next : (k x b : ℕ) → x < 2 ^ k → b * 2 ^ k < 2 ^ 64 → bit_or x (b * 2 ^ k % 2 ^ 64) ≡ b * 2 ^ k + x
or-next k x b h hb = ap (bit_or x) (mod-eq_of_lt hb) ∙ or_shifted_r b k x h

take_next : (s : List ℕ) (i k : ℕ) → i < length s → take (suc k) (drop i s) ≡ get_or s i 0 ∷ take k (drop (suc i) s)
take_next s i k h = ap (take (suc k)) (drop-cons s i 0 h)

eight-weights : (b0 b1 b2 b3 b4 b5 b6 b7 : ℕ)
    → b7 * 2 ^ 56 + (b6 * 2 ^ 48 + (b5 * 2 ^ 40 + (b4 * 2 ^ 32 + (b3 * 2 ^ 24 + (b2 * 2 ^ 16 + (b1 * 2 ^ 8 + b0))))))
    ≡ (((((((0 * 256 + b7) * 256 + b6) * 256 + b5) * 256 + b4) * 256 + b3) * 256 + b2) * 256 + b1) * 256 + b0
eight-weights b0 b1 b2 b3 b4 b5 b6 b7 = omega arith

value-more : (b : ℕ) (l : List ℕ) (x : ℕ) → b < 256 → value_of l ≡ x → value_of (b ∷ l) ≡ x * 256 + b
value-more b l x h e = value-octet b l h ∙ ap (λ (n : ℕ). n * 256 + b) e

pub value-eight : (b0 b1 b2 b3 b4 b5 b6 b7 : ℕ) → b0 < 256 → b1 < 256 → b2 < 256 → b3 < 256 → b4 < 256 → b5 < 256 → b6 < 256 → b7 < 256
    → bit_or (bit_or (bit_or (bit_or (bit_or (bit_or (bit_or b0 (b1 * 2 ^ 8 % 2 ^ 64)) (b2 * 2 ^ 16 % 2 ^ 64)) (b3 * 2 ^ 24 % 2 ^ 64)) (b4 * 2 ^ 32 % 2 ^ 64)) (b5 * 2 ^ 40 % 2 ^ 64)) (b6 * 2 ^ 48 % 2 ^ 64)) (b7 * 2 ^ 56 % 2 ^ 64)
    ≡ value_of (b0 ∷ b1 ∷ b2 ∷ b3 ∷ b4 ∷ b5 ∷ b6 ∷ b7 ∷ [])
value-eight b0 b1 b2 b3 b4 b5 b6 b7 h0 h1 h2 h3 h4 h5 h6 h7 =
    let e1 = or-next 8 b0 b1 (omega arith) (omega arith) in
    let e2 = or-next 16 (b1 * 2 ^ 8 + b0) b2 (omega arith) (omega arith) in
    let e3 = or-next 24 (b2 * 2 ^ 16 + (b1 * 2 ^ 8 + b0)) b3 (omega arith) (omega arith) in
    let e4 = or-next 32 (b3 * 2 ^ 24 + (b2 * 2 ^ 16 + (b1 * 2 ^ 8 + b0))) b4 (omega arith) (omega arith) in
    let e5 = or-next 40 (b4 * 2 ^ 32 + (b3 * 2 ^ 24 + (b2 * 2 ^ 16 + (b1 * 2 ^ 8 + b0)))) b5 (omega arith) (omega arith) in
    let e6 = or-next 48 (b5 * 2 ^ 40 + (b4 * 2 ^ 32 + (b3 * 2 ^ 24 + (b2 * 2 ^ 16 + (b1 * 2 ^ 8 + b0))))) b6 (omega arith) (omega arith) in
    let e7 = or-next 56 (b6 * 2 ^ 48 + (b5 * 2 ^ 40 + (b4 * 2 ^ 32 + (b3 * 2 ^ 24 + (b2 * 2 ^ 16 + (b1 * 2 ^ 8 + b0)))))) b7 (omega arith) (omega arith) in
    rw (e1, e2, e3, e4, e5, e6, e7)
    (eight-weights b0 b1 b2 b3 b4 b5 b6 b7
    ∙ sym
    (value-more b0 (b1 ∷ b2 ∷ b3 ∷ b4 ∷ b5 ∷ b6 ∷ b7 ∷ []) _ h0 (value-more b1 (b2 ∷ b3 ∷ b4 ∷ b5 ∷ b6 ∷ b7 ∷ []) _ h1 (value-more b2 (b3 ∷ b4 ∷ b5 ∷ b6 ∷ b7 ∷ []) _ h2 (value-more b3 (b4 ∷ b5 ∷ b6 ∷ b7 ∷ []) _ h3 (value-more b4 (b5 ∷ b6 ∷ b7 ∷ []) _ h4 (value-more b5 (b6 ∷ b7 ∷ []) _ h5 (value-more b6 (b7 ∷ []) _ h6 (value-more b7 [] 0 h7 refl)))))))))

pub take-eight : (s : List ℕ) (i : ℕ) → i + 8 ≤ length s
    → take 8 (drop i s)
    ≡ get_or s i 0 ∷ get_or s (i + 1) 0 ∷ get_or s (i + 2) 0 ∷ get_or s (i + 3) 0 ∷ get_or s (i + 4) 0 ∷ get_or s (i + 5) 0 ∷ get_or s (i + 6) 0 ∷ get_or s (i + 7) 0 ∷ []
take-eight s i h =
    simp towards_suc
    (take_next s i 7 (omega arith)
    ∙ ap (λ (l : List ℕ). get_or s i 0 ∷ l)
    (take_next s (suc i) 6 (omega arith)
    ∙ ap (λ (l : List ℕ). get_or s (suc i) 0 ∷ l)
    (take_next s (suc (suc i)) 5 (omega arith)
    ∙ ap (λ (l : List ℕ). get_or s (suc (suc i)) 0 ∷ l)
    (take_next s (suc (suc (suc i))) 4 (omega arith)
    ∙ ap (λ (l : List ℕ). get_or s (suc (suc (suc i))) 0 ∷ l)
    (take_next s (suc (suc (suc (suc i)))) 3 (omega arith)
    ∙ ap (λ (l : List ℕ). get_or s (suc (suc (suc (suc i)))) 0 ∷ l)
    (take_next s (suc (suc (suc (suc (suc i))))) 2 (omega arith)
    ∙ ap (λ (l : List ℕ). get_or s (suc (suc (suc (suc (suc i))))) 0 ∷ l)
    (take_next s (suc (suc (suc (suc (suc (suc i)))))) 1 (omega arith)
    ∙ ap (λ (l : List ℕ). get_or s (suc (suc (suc (suc (suc (suc i)))))) 0 ∷ l)
    (take_next s (suc (suc (suc (suc (suc (suc (suc i))))))) 0 (omega arith)))))))))

pub eight_cells : {a0 a1 a2 a3 a4 a5 a6 a7 b0 b1 b2 b3 b4 b5 b6 b7 : ℕ} → a0 ≡ b0 → a1 ≡ b1 → a2 ≡ b2 → a3 ≡ b3 → a4 ≡ b4 → a5 ≡ b5 → a6 ≡ b6 → a7 ≡ b7
    → ◌≡◌ {A = List ℕ} (a0 ∷ a1 ∷ a2 ∷ a3 ∷ a4 ∷ a5 ∷ a6 ∷ a7 ∷ []) (b0 ∷ b1 ∷ b2 ∷ b3 ∷ b4 ∷ b5 ∷ b6 ∷ b7 ∷ [])
eight_cells e0 e1 e2 e3 e4 e5 e6 e7 = cc
