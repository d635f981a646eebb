-- The sequence of V.42 is the complement of a shift register. A polynomial is read as a number with its highest power at the low-order bit: a
-- step of the long division is then a step of the register, and the sum modulo 2 is `bit_xor`. Assumes nothing.
use mathlib.Core.Path.{◌≡◌, refl, sym, ap, ap₂, ◌∙◌}
use mathlib.Core.Bool.{Bool, true, false, not}
use mathlib.Core.List.{List, [], ◌∷◌, ◌++◌, map, append_assoc}
use Prim.Native.Nat.{ℕ, zero, suc, ◌+◌, ◌-◌, ◌*◌, ◌^◌, ◌<◌}
use native.Mathlib.Nat.{pow-suc, mul_assoc, zero-mul, zero-add}
use native.Mathlib.Omega.{arith}
use lib.Arith.{digits_lt}
use lib.Bits.{bit_xor, xor_zero_r, xor_block}
use lib.Dec.{lit<}
use lib.ListN.{length, replicate, length-append, length-replicate}
use Rattle.lists.specs.Cases.{flag}
use Rattle.lists.specs.Counts.{is_in}
use Rattle.checksum.specs.Poly.{Poly, plus, sum, times, all_ones, rest, divide, remainder}
use Rattle.checksum.specs.V42.{generator, content, number, remainders, fcs, crc32_of}
use Rattle.checksum.specs.Register.{steps, value_of, register_after}
use Rattle.checksum.proofs.Division.{length-sum}
use Rattle.checksum.proofs.Steps.{step-digit, steps-zero, steps-xor, steps-add, steps-over}

-- ---- a polynomial as a number

flag-lt : (b : Bool) → flag b < 2
flag-lt true = lit< tt
flag-lt false = lit< tt

pub number_lt : (p : Poly) → number p < 2 ^ length p
number_lt [] = lit< tt
number_lt (b ∷ p) = rw pow-suc (digits_lt (number_lt p) (flag-lt b))

pub number_append : (p q : Poly) → number (p ++ q) ≡ number q * 2 ^ length p + number p
number_append [] q = omega arith
number_append (b ∷ p) q = rw (pow-suc, ← mul_assoc) (omega (arith, number_append p q))

flag-plus : (a b : Bool) → bit_xor (flag a) (flag b) ≡ flag (plus a b)
flag-plus true true = refl
flag-plus true false = refl
flag-plus false true = refl
flag-plus false false = refl

pub number-sum : (p q : Poly) → number (sum p q) ≡ bit_xor (number p) (number q)
number-sum [] q = refl
number-sum (a ∷ p) [] = sym (xor_zero_r (number (a ∷ p)))
number-sum (a ∷ p) (b ∷ q) =
    ap₂ (λ (x y : ℕ). x * 2 + y) (number-sum p q) (sym (flag-plus a b))
    ∙ sym (xor_block 1 (number p) (number q) (flag a) (flag b) (flag-lt a) (flag-lt b))

number-zeros : (k : ℕ) → number (replicate k false) ≡ 0
number-zeros zero = refl
number-zeros (suc k) = omega (arith, number-zeros k)

number-times : (k : ℕ) (p : Poly) → number (times k p) ≡ number p
number-times k p =
    number_append p (replicate k false)
    ∙ ap (λ (x : ℕ). x * 2 ^ length p + number p) (number-zeros k)
    ∙ ap (λ (x : ℕ). x + number p) (zero-mul (2 ^ length p))
    ∙ zero-add (number p)

number-not : (p : Poly) → number (map not p) ≡ (2 ^ length p - 1) - number p
number-not [] = refl
number-not (true ∷ p) = rw pow-suc (omega (arith, number-not p, number_lt p))
number-not (false ∷ p) = rw pow-suc (omega (arith, number-not p, number_lt p))

-- ---- the long division

number-divide : (k : ℕ) (p : Poly) → number (divide generator k p) ≡ steps k (number p)
unfolding is_in divide steps
number-divide zero p = refl
number-divide (suc k) [] = sym (steps-zero (suc k))
number-divide (suc k) (false ∷ p) =
    number-divide k p ∙ ap (steps k) (sym (xor_zero_r (number p)) ∙ sym (step-digit (number p) 0 (lit< tt)))
number-divide (suc k) (true ∷ p) =
    number-divide k (sum p (rest generator))
    ∙ ap (steps k) (number-sum p (rest generator) ∙ sym (step-digit (number p) 1 (lit< tt)))

length-divide : (k : ℕ) (p : Poly) → length p ≡ k + 32 → length (divide generator k p) ≡ 32
unfolding divide
length-divide zero p h = omega arith
length-divide (suc k) [] h = omega arith
length-divide (suc k) (false ∷ p) h = length-divide k p (omega arith)
length-divide (suc k) (true ∷ p) h =
    let e : length p ≡ k + 32 = omega arith in
    length-divide k (sum p (rest generator)) (length-sum p (rest generator) (omega arith) ∙ e)

length-times : (k : ℕ) (p : Poly) → length (times k p) ≡ length p + k
length-times k p = simp (length-append, length-replicate)

number-remainder : (k : ℕ) (p : Poly) → length p ≡ k + 32 → number (remainder p generator) ≡ steps k (number p)
unfolding remainder
number-remainder k p h =
    let e : length p - 32 ≡ k = omega arith in
    number-divide (length p - 32) p ∙ ap (λ (n : ℕ). steps n (number p)) e

length-remainder : (k : ℕ) (p : Poly) → length p ≡ k + 32 → length (remainder p generator) ≡ 32
unfolding remainder
length-remainder k p h =
    let e : length p - 32 ≡ k = omega arith in
    ap (λ (n : ℕ). length (divide generator n p)) e ∙ length-divide k p h

-- ---- the register

pub content-append : (xs ys : List ℕ) → content (xs ++ ys) ≡ content xs ++ content ys
content-append [] ys = refl
content-append (x ∷ xs) ys = rw (content-append xs ys, append_assoc)

pub register-append : (c : ℕ) (xs ys : List ℕ) → register_after c (xs ++ ys) ≡ register_after (register_after c xs) ys
unfolding register_after
register-append c xs ys =
    ap (λ (p : Poly). steps (length p) (bit_xor c (number p))) (content-append xs ys)
    ∙ ap₂ (λ (n x : ℕ). steps n (bit_xor c x)) (length-append (content xs) (content ys)) (number_append (content xs) (content ys))
    ∙ steps-add (length (content xs)) (length (content ys)) (bit_xor c (value_of ys * 2 ^ length (content xs) + value_of xs))
    ∙ ap (steps (length (content ys))) (steps-over (length (content xs)) c (value_of ys) (value_of xs) (number_lt (content xs)))

module _ (m : Poly) where
  ones-length : length (times (length m) (all_ones 32)) ≡ length m + 32
  ones-length = omega (arith, length-times (length m) (all_ones 32))

  pub remainders-length : length (remainders m) ≡ 32
  unfolding remainders
  remainders-length =
      let a = remainder (times (length m) (all_ones 32)) generator in
      let b = remainder (times 32 m) generator in
      let la : length a ≡ 32 = length-remainder (length m) (times (length m) (all_ones 32)) ones-length in
      let lb : length b ≡ 32 = length-remainder (length m) (times 32 m) (length-times 32 m) in
      length-sum a b (omega arith) ∙ la

  -- the register that starts as all ones
  pub remainders-register : number (remainders m) ≡ steps (length m) (bit_xor (2 ^ 32 - 1) (number m))
  unfolding remainders
  remainders-register =
      number-sum (remainder (times (length m) (all_ones 32)) generator) (remainder (times 32 m) generator)
      ∙ ap₂ bit_xor
      (number-remainder (length m) (times (length m) (all_ones 32)) ones-length ∙ ap (steps (length m)) (number-times (length m) (all_ones 32)))
      (number-remainder (length m) (times 32 m) (length-times 32 m) ∙ ap (steps (length m)) (number-times 32 m))
      ∙ sym (steps-xor (length m) (2 ^ 32 - 1) (number m))

-- the sequence of V.42 is the complement of the register
pub crc-is-register : (bytes : List ℕ) → crc32_of bytes ≡ (2 ^ 32 - 1) - register_after (2 ^ 32 - 1) bytes
unfolding crc32_of fcs register_after
crc-is-register bytes =
    number-not (remainders (content bytes))
    ∙ ap₂ (λ (n x : ℕ). (2 ^ n - 1) - x) (remainders-length (content bytes)) (remainders-register (content bytes))
