-- What the folding comes to: the 304 octets that are left over have the register of the whole. The octets struck out stand once where they
-- were and once at each of the four places further on, and by the sparse relation the register after all of them is 0. Assumes nothing.
use mathlib.Core.Path.{◌≡◌, refl, sym, ap, ap₂, ◌∙◌}
use mathlib.Core.List.{List, [], ◌∷◌, ◌++◌}
use Prim.Native.Nat.{ℕ, zero, suc, ◌+◌, ◌-◌, ◌*◌, ◌/◌, ◌%◌, ◌^◌, ◌<◌, ◌≤◌}
use native.Mathlib.Nat.{add_comm, add-zero, mod-lt, mod-eq_of_lt, lt_of_lt_of_le}
use native.Mathlib.Omega.{arith}
use lib.Bits.{bit_xor, xor_zero_r, xor_comm, xor_self, xor_block, xor_mod, xor_shifted}
use lib.Dec.{lit<, lit≤}
use lib.ListN.{length, get_or, take, drop, replicate, length-append, length-drop, take-append-drop}
use lib.Pow.{pow_mono, split, shr-shr}
use lib.Seq.{get_or-drop, drop-append-le, ext_get_or}
use Rattle.checksum.specs.Register.{steps, value_of, register_after}
use Rattle.crc.specs.Folds.{folded_at, lead_of}
use Rattle.checksum.proofs.Xor.{xor_assoc}
use Rattle.checksum.proofs.Steps.{steps-xor, steps-add, run-back}
use Rattle.checksum.proofs.Octets.{length-content, value-cons, value-append, value-lt}
use Rattle.checksum.proofs.Sparse.{sparse-2400}

-- ---- the sum of two lists of octets, of which the second is no longer

xor_each : List ℕ → List ℕ → List ℕ
xor_each [] ys = []
xor_each (x ∷ xs) [] = x ∷ xs
xor_each (x ∷ xs) (y ∷ ys) = bit_xor x y ∷ xor_each xs ys

length-xor_each : (xs ys : List ℕ) → length (xor_each xs ys) ≡ length xs
unfolding xor_each
length-xor_each [] ys = refl
length-xor_each (x ∷ xs) [] = refl
length-xor_each (x ∷ xs) (y ∷ ys) = ap suc (length-xor_each xs ys)

get_or-xor_each : (xs ys : List ℕ) (k : ℕ) → k < length xs → get_or (xor_each xs ys) k 0 ≡ bit_xor (get_or xs k 0) (get_or ys k 0)
unfolding xor_each
get_or-xor_each [] ys k h = omega arith
get_or-xor_each (x ∷ xs) [] k h = sym (xor_zero_r (get_or (x ∷ xs) k 0))
get_or-xor_each (x ∷ xs) (y ∷ ys) zero h = refl
get_or-xor_each (x ∷ xs) (y ∷ ys) (suc k) h = get_or-xor_each xs ys k (omega arith)

value-xor_each : (xs ys : List ℕ) → length ys ≤ length xs → value_of (xor_each xs ys) ≡ bit_xor (value_of xs) (value_of ys)
unfolding xor_each
value-xor_each [] [] h = refl
value-xor_each [] (y ∷ ys) h = omega arith
value-xor_each (x ∷ xs) [] h = sym (xor_zero_r (value_of (x ∷ xs)))
value-xor_each (x ∷ xs) (y ∷ ys) h =
    value-cons (bit_xor x y) (xor_each xs ys)
    ∙ ap₂ (λ (p q : ℕ). p * 256 + q) (value-xor_each xs ys (omega arith)) (xor_mod x y 8)
    ∙ sym (xor_block 8 (value_of xs) (value_of ys) (x % 256) (y % 256) (mod-lt x (lit< tt)) (mod-lt y (lit< tt)))
    ∙ sym (ap₂ bit_xor (value-cons x xs) (value-cons y ys))

-- ---- sums modulo 2, regrouped

xor-left-comm : (a b c : ℕ) → bit_xor a (bit_xor b c) ≡ bit_xor b (bit_xor a c)
xor-left-comm a b c = sym (xor_assoc a b c) ∙ ap (λ (x : ℕ). bit_xor x c) (xor_comm a b) ∙ xor_assoc b a c

xor-twice : (a b : ℕ) → bit_xor (bit_xor a b) b ≡ a
xor-twice a b = xor_assoc a b b ∙ ap (bit_xor a) (xor_self b) ∙ xor_zero_r a

xor-gather : (s a b c d f : ℕ) → bit_xor (bit_xor (bit_xor (bit_xor s a) b) c) (bit_xor d f) ≡ bit_xor (bit_xor f s) (bit_xor a (bit_xor b (bit_xor c d)))
xor-gather s a b c d f =
    ap (bit_xor (bit_xor (bit_xor (bit_xor s a) b) c)) (xor_comm d f)
    ∙ xor-left-comm (bit_xor (bit_xor (bit_xor s a) b) c) f d
    ∙ ap (bit_xor f) (xor_assoc (bit_xor (bit_xor s a) b) c d ∙ xor_assoc (bit_xor s a) b (bit_xor c d) ∙ xor_assoc s a (bit_xor b (bit_xor c d)))
    ∙ sym (xor_assoc f s (bit_xor a (bit_xor b (bit_xor c d))))

xor-cancel : (t x y : ℕ) → bit_xor t x ≡ bit_xor y x → t ≡ y
xor-cancel t x y e = sym (xor-twice t x) ∙ ap (λ (z : ℕ). bit_xor z x) e ∙ xor-twice y x

-- ---- the register as octets

value-four : (b0 b1 b2 b3 : ℕ) → value_of (b0 ∷ b1 ∷ b2 ∷ b3 ∷ replicate 296 0) ≡ (((0 * 256 + b3 % 256) * 256 + b2 % 256) * 256 + b1 % 256) * 256 + b0 % 256
value-four b0 b1 b2 b3 =
    value-cons b0 (b1 ∷ b2 ∷ b3 ∷ replicate 296 0)
    ∙ ap (λ (x : ℕ). x * 256 + b0 % 256)
    (value-cons b1 (b2 ∷ b3 ∷ replicate 296 0)
    ∙ ap (λ (x : ℕ). x * 256 + b1 % 256)
    (value-cons b2 (b3 ∷ replicate 296 0) ∙ ap (λ (x : ℕ). x * 256 + b2 % 256) (value-cons b3 (replicate 296 0))))

value-digit : (x k : ℕ) → x / 2 ^ k ≡ x / 2 ^ (k + 8) * 256 + x / 2 ^ k % 2 ^ 8 % 256
value-digit x k =
    sym (split (x / 2 ^ k) 8)
    ∙ ap₂ (λ (p q : ℕ). p * 256 + q) (shr-shr x k 8) (sym (mod-eq_of_lt (mod-lt (x / 2 ^ k) {m = 256} (lit< tt))))

lead-value : (c : ℕ) → c < 2 ^ 32 → value_of (lead_of c) ≡ c
lead-value c h =
    let z : c / 2 ^ 32 ≡ 0 = omega arith in
    value-four (c % 2 ^ 8) (c / 2 ^ 8 % 2 ^ 8) (c / 2 ^ 16 % 2 ^ 8) (c / 2 ^ 24 % 2 ^ 8)
    ∙ sym
    (sym (split c 8)
    ∙ ap₂ (λ (p q : ℕ). p * 256 + q)
    (value-digit c 8
    ∙ ap (λ (x : ℕ). x * 256 + c / 2 ^ 8 % 2 ^ 8 % 256)
    (value-digit c 16
    ∙ ap (λ (x : ℕ). x * 256 + c / 2 ^ 16 % 2 ^ 8 % 256) (value-digit c 24 ∙ ap (λ (x : ℕ). x * 256 + c / 2 ^ 24 % 2 ^ 8 % 256) z)))
    (sym (mod-eq_of_lt (mod-lt c {m = 256} (lit< tt)))))

-- ---- what is struck out

module _ (c : ℕ) (hc : c < 2 ^ 32) (octets sums left : List ℕ) (cut : ℕ) (big : 300 ≤ cut) (size : length octets ≡ cut + 4) (sums-length : length sums ≡ cut) (left-length : length left ≡ 304)
    (lead : take 300 sums ≡ lead_of c) (folded : (k : ℕ) → k < cut + 4 → get_or (drop 300 sums ++ left) k 0 ≡ folded_at octets sums k) where
  -- the octets that are struck out
  struck : List ℕ
  struck = drop 300 sums

  struck-length : length struck ≡ cut - 300
  unfolding struck
  struck-length = omega (arith, length-drop 300 sums, sums-length)

  sums-parts : sums ≡ lead_of c ++ struck
  unfolding struck
  sums-parts = sym (take-append-drop 300 sums) ∙ ap (λ (l : List ℕ). l ++ drop 300 sums) lead

  -- the octets, with everything that is added to them
  total : List ℕ
  total = xor_each (xor_each (xor_each (xor_each octets (drop 155 sums)) (drop 117 sums)) (drop 89 sums)) sums

  total-length : length total ≡ cut + 4
  unfolding total
  total-length = simp length-xor_each size

  moved : (k i : ℕ) → get_or (drop k sums) i 0 ≡ get_or sums (i + k) 0
  moved k i = get_or-drop k sums i 0 ∙ ap (λ (j : ℕ). get_or sums j 0) (add_comm k i)

  total-at : (k : ℕ) → k < cut + 4 → get_or total k 0 ≡ folded_at octets sums k
  unfolding total
  total-at k h =
      get_or-xor_each (xor_each (xor_each (xor_each octets (drop 155 sums)) (drop 117 sums)) (drop 89 sums)) sums k (simp length-xor_each (omega arith))
      ∙ ap (λ (x : ℕ). bit_xor x (get_or sums k 0))
      (get_or-xor_each (xor_each (xor_each octets (drop 155 sums)) (drop 117 sums)) (drop 89 sums) k (simp length-xor_each (omega arith))
      ∙ ap₂ bit_xor
      (get_or-xor_each (xor_each octets (drop 155 sums)) (drop 117 sums) k (simp length-xor_each (omega arith))
      ∙ ap₂ bit_xor (get_or-xor_each octets (drop 155 sums) k (omega arith) ∙ ap (bit_xor (get_or octets k 0)) (moved 155 k)) (moved 117 k))
      (moved 89 k))

  total-parts : struck ++ left ≡ total
  unfolding struck
  total-parts =
      let l : length (drop 300 sums ++ left) ≡ cut + 4 = omega (arith, length-append (drop 300 sums) left, length-drop 300 sums, sums-length, left-length) in
      ext_get_or 0 (drop 300 sums ++ left) total (l ∙ sym total-length) (λ k h. folded k (omega arith) ∙ sym (total-at k (omega arith)))

  -- what is added is the struck octets, moved on
  from-lead : (k j : ℕ) → k ≤ 300 → length (drop k (lead_of c)) ≡ j → value_of (drop k sums) ≡ value_of struck * 2 ^ (8 * j) + value_of (drop k (lead_of c))
  from-lead k j h l =
      ap (λ (x : List ℕ). value_of (drop k x)) sums-parts
      ∙ ap value_of (drop-append-le k (lead_of c) struck h)
      ∙ value-append (drop k (lead_of c)) struck
      ∙ ap (λ (i : ℕ). value_of struck * 2 ^ (8 * i) + value_of (drop k (lead_of c))) l

  on145 : value_of (drop 155 sums) ≡ value_of struck * 2 ^ 1160
  on145 = from-lead 155 145 (lit≤ tt) refl ∙ add-zero (value_of struck * 2 ^ 1160)

  on183 : value_of (drop 117 sums) ≡ value_of struck * 2 ^ 1464
  on183 = from-lead 117 183 (lit≤ tt) refl ∙ add-zero (value_of struck * 2 ^ 1464)

  on211 : value_of (drop 89 sums) ≡ value_of struck * 2 ^ 1688
  on211 = from-lead 89 211 (lit≤ tt) refl ∙ add-zero (value_of struck * 2 ^ 1688)

  on300 : value_of sums ≡ bit_xor (value_of struck * 2 ^ 2400) c
  on300 =
      from-lead 0 300 (lit≤ tt) refl ∙ ap (λ (x : ℕ). value_of struck * 2 ^ 2400 + x) (lead-value c hc)
      ∙ sym (xor_shifted (value_of struck) 2400 c (lt_of_lt_of_le hc (pow_mono {i = 32} {j = 2400} (lit≤ tt))))

  struck-lt : value_of struck < 2 ^ (8 * (cut - 300))
  struck-lt = value-lt struck (cut - 300) struck-length

  -- all of it as numbers
  values : bit_xor (value_of left * 2 ^ (8 * (cut - 300))) (value_of struck)
      ≡ bit_xor (bit_xor (bit_xor (bit_xor (value_of octets) (value_of struck * 2 ^ 1160)) (value_of struck * 2 ^ 1464)) (value_of struck * 2 ^ 1688)) (bit_xor (value_of struck * 2 ^ 2400) c)
  unfolding total
  values =
      xor_shifted (value_of left) (8 * (cut - 300)) (value_of struck) struck-lt
      ∙ sym (value-append struck left ∙ ap (λ (i : ℕ). value_of left * 2 ^ (8 * i) + value_of struck) struck-length)
      ∙ ap value_of total-parts
      ∙ value-xor_each (xor_each (xor_each (xor_each octets (drop 155 sums)) (drop 117 sums)) (drop 89 sums)) sums (simp length-xor_each (omega (arith, sums-length)))
      ∙ ap₂ bit_xor
      (value-xor_each (xor_each (xor_each octets (drop 155 sums)) (drop 117 sums)) (drop 89 sums) (simp length-xor_each (omega (arith, sums-length, length-drop 89 sums)))
      ∙ ap₂ bit_xor
      (value-xor_each (xor_each octets (drop 155 sums)) (drop 117 sums) (simp length-xor_each (omega (arith, sums-length, length-drop 117 sums)))
      ∙ ap₂ bit_xor (value-xor_each octets (drop 155 sums) (omega (arith, sums-length, length-drop 155 sums)) ∙ ap (bit_xor (value_of octets)) on145) on183)
      on211)
      on300

  -- the steps that are left after 2,400
  later : ℕ
  later = 8 * (cut - 300) + 32

  moved_on : (j k : ℕ) → j + k ≡ 2400 → steps (8 * (cut + 4)) (value_of struck * 2 ^ j) ≡ steps later (steps k (value_of struck))
  unfolding later
  moved_on j k h =
      let d : 8 * (cut + 4) ≡ j + (k + (8 * (cut - 300) + 32)) = omega arith in
      ap (λ (i : ℕ). steps i (value_of struck * 2 ^ j)) d ∙ run-back j (k + (8 * (cut - 300) + 32)) (value_of struck)
      ∙ steps-add k (8 * (cut - 300) + 32) (value_of struck)

  -- the sparse relation: all steps of the struck octets are those of the octets moved on
  struck-run : steps (8 * (cut + 4)) (value_of struck)
      ≡ bit_xor (steps later (steps 1240 (value_of struck))) (bit_xor (steps later (steps 936 (value_of struck))) (bit_xor (steps later (steps 712 (value_of struck))) (steps later (value_of struck))))
  unfolding later
  struck-run =
      let d : 8 * (cut + 4) ≡ 2400 + (8 * (cut - 300) + 32) = omega arith in
      let h : value_of struck < 2 ^ (8 * (cut - 300) + 32) = lt_of_lt_of_le struck-lt (pow_mono {i = 8 * (cut - 300)} {j = 8 * (cut - 300) + 32} (omega arith)) in
      ap (λ (i : ℕ). steps i (value_of struck)) d ∙ steps-add 2400 later (value_of struck) ∙ sparse-2400 later (value_of struck) h
      ∙ steps-xor later (steps 1240 (value_of struck)) (bit_xor (steps 936 (value_of struck)) (bit_xor (steps 712 (value_of struck)) (value_of struck)))
      ∙ ap (bit_xor (steps later (steps 1240 (value_of struck))))
      (steps-xor later (steps 936 (value_of struck)) (bit_xor (steps 712 (value_of struck)) (value_of struck))
      ∙ ap (bit_xor (steps later (steps 936 (value_of struck)))) (steps-xor later (steps 712 (value_of struck)) (value_of struck)))

  left-run : steps (8 * (cut + 4)) (value_of left * 2 ^ (8 * (cut - 300))) ≡ register_after 0 left
  unfolding register_after
  left-run =
      let d : 8 * (cut + 4) ≡ 8 * (cut - 300) + 2432 = omega arith in
      ap (λ (i : ℕ). steps i (value_of left * 2 ^ (8 * (cut - 300)))) d ∙ run-back (8 * (cut - 300)) 2432 (value_of left)
      ∙ ap (λ (i : ℕ). steps i (value_of left)) (sym (length-content left ∙ ap (λ (i : ℕ). 8 * i) left-length))

  moved-on-300 : steps (8 * (cut + 4)) (value_of struck * 2 ^ 2400) ≡ steps later (value_of struck)
  unfolding steps
  moved-on-300 = moved_on 2400 0 refl

  -- so the struck octets cancel
  pub elimination : register_after 0 left ≡ register_after c octets
  unfolding register_after
  elimination =
      let k = 8 * (cut + 4) in
      let x1 = steps later (steps 1240 (value_of struck)) in
      let x2 = steps later (steps 936 (value_of struck)) in
      let x3 = steps later (steps 712 (value_of struck)) in
      let x4 = steps later (value_of struck) in
      xor-cancel (register_after 0 left) (bit_xor x1 (bit_xor x2 (bit_xor x3 x4))) (bit_xor (steps k c) (steps k (value_of octets)))
      (sym (ap₂ bit_xor left-run struck-run)
      ∙ sym (steps-xor k (value_of left * 2 ^ (8 * (cut - 300))) (value_of struck))
      ∙ ap (steps k) values
      ∙ steps-xor k (bit_xor (bit_xor (bit_xor (value_of octets) (value_of struck * 2 ^ 1160)) (value_of struck * 2 ^ 1464)) (value_of struck * 2 ^ 1688)) (bit_xor (value_of struck * 2 ^ 2400) c)
      ∙ ap₂ bit_xor
      (steps-xor k (bit_xor (bit_xor (value_of octets) (value_of struck * 2 ^ 1160)) (value_of struck * 2 ^ 1464)) (value_of struck * 2 ^ 1688)
      ∙ ap₂ bit_xor
      (steps-xor k (bit_xor (value_of octets) (value_of struck * 2 ^ 1160)) (value_of struck * 2 ^ 1464)
      ∙ ap₂ bit_xor (steps-xor k (value_of octets) (value_of struck * 2 ^ 1160) ∙ ap (bit_xor (steps k (value_of octets))) (moved_on 1160 1240 refl)) (moved_on 1464 936 refl))
      (moved_on 1688 712 refl))
      (steps-xor k (value_of struck * 2 ^ 2400) c ∙ ap (λ (z : ℕ). bit_xor z (steps k c)) moved-on-300)
      ∙ xor-gather (steps k (value_of octets)) x1 x2 x3 x4 (steps k c))
      ∙ sym (steps-xor k c (value_of octets))
      ∙ ap (λ (i : ℕ). steps i (bit_xor c (value_of octets))) (sym (length-content octets ∙ ap (λ (i : ℕ). 8 * i) size))
