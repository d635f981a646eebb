-- Maps that keep sums modulo 2 are equal where they agree at each power of 2, which is computed: so 64 steps are a sum of shifts.
-- Assumes nothing.
use mathlib.Core.Path.{◌≡◌, refl, sym, ap, ap₂, ◌∙◌, subst}
use mathlib.Core.Bool.{Bool, true, ◌&&◌}
use mathlib.Core.List.{List, [], ◌∷◌}
use Prim.Native.Nat.{ℕ, zero, suc, ◌*◌, ◌/◌, ◌%◌, ◌^◌, ◌<◌}
use native.Mathlib.Nat.{lt_of_lt_of_le, mod-lt, add-zero, zero-mul, one-mul, le_of_suc-le-suc, not-suc-le-zero}
use native.Mathlib.Numerals.{one-add}
use borrow.Author.Tests.{eqb-true}
use lib.Arith.{lt-one}
use lib.Bits.{bit_xor, xor_block, xor_mod, xor_shr, xor_shifted, xor_self}
use lib.Dec.{eqb, lit≤}
use lib.Pow.{split, pow_pos, shr_lt}
use Rattle.lists.proofs.Booleans.{and_left, and_right}
use Rattle.checksum.specs.Register.{step, steps}
use Rattle.checksum.proofs.Xor.{xor-swap}
use Rattle.checksum.proofs.Steps.{steps-xor, steps-reduce}

abbrev Linear : (ℕ → ℕ) → Type 0
Linear f = (a b : ℕ) → f (bit_xor a b) ≡ bit_xor (f a) (f b)

shl-xor : (k : ℕ) → Linear (λ x. x * 2 ^ k)
shl-xor k a b =
    sym
    (ap₂ bit_xor (sym (add-zero (a * 2 ^ k))) (sym (add-zero (b * 2 ^ k)))
    ∙ xor_block k a b 0 0 (pow_pos k) (pow_pos k) ∙ add-zero (bit_xor a b * 2 ^ k))

-- the sum of x and of x shifted up by each of some counts, in a word of 64 bits
abbrev shifted_up : List ℕ → ℕ → ℕ
shifted_up [] x = x
shifted_up (k ∷ ks) x = bit_xor (shifted_up ks x) (x * 2 ^ k % 2 ^ 64)

-- the sum of x shifted down by each of some counts
abbrev shifted_down : ℕ → List ℕ → ℕ → ℕ
shifted_down j [] x = x / 2 ^ j
shifted_down j (k ∷ ks) x = bit_xor (shifted_down j ks x) (x / 2 ^ k)

shifted_up-xor : (ks : List ℕ) → Linear (shifted_up ks)
shifted_up-xor [] a b = refl
shifted_up-xor (k ∷ ks) a b =
    ap₂ bit_xor (shifted_up-xor ks a b) (ap (λ (x : ℕ). x % 2 ^ 64) (shl-xor k a b) ∙ xor_mod (a * 2 ^ k) (b * 2 ^ k) 64)
    ∙ xor-swap (shifted_up ks a) (shifted_up ks b) (a * 2 ^ k % 2 ^ 64) (b * 2 ^ k % 2 ^ 64)

shifted_down-xor : (j : ℕ) (ks : List ℕ) → Linear (shifted_down j ks)
shifted_down-xor j [] a b = xor_shr a b j
shifted_down-xor j (k ∷ ks) a b = ap₂ bit_xor (shifted_down-xor j ks a b) (xor_shr a b k) ∙ xor-swap (shifted_down j ks a) (shifted_down j ks b) (a / 2 ^ k) (b / 2 ^ k)

at_zero : (f : ℕ → ℕ) → Linear f → f 0 ≡ 0
at_zero f p = p 0 0 ∙ xor_self (f 0)

-- f and g agree at the powers of 2 below 2 ^ n
module _ (f g : ℕ → ℕ) where
  abbrev agree : ℕ → Bool
  agree zero = true
  agree (suc n) = eqb (f (2 ^ n)) (g (2 ^ n)) && agree n

module _ (f g : ℕ → ℕ) (p : Linear f) (q : Linear g) where
  -- the highest bit, and the rest
  top : (n b : ℕ) → b < 2 → f (2 ^ n) ≡ g (2 ^ n) → f (b * 2 ^ n) ≡ g (b * 2 ^ n)
  top n zero h e = ap f (zero-mul (2 ^ n)) ∙ at_zero f p ∙ sym (ap g (zero-mul (2 ^ n)) ∙ at_zero g q)
  top n (suc zero) h e = ap f (one-mul (2 ^ n)) ∙ e ∙ sym (ap g (one-mul (2 ^ n)))
  top n (suc (suc b)) h e = absurd (not-suc-le-zero (le_of_suc-le-suc (le_of_suc-le-suc h)))

  cut : (n x : ℕ) → x ≡ bit_xor (x / 2 ^ n * 2 ^ n) (x % 2 ^ n)
  cut n x = sym (xor_shifted (x / 2 ^ n) n (x % 2 ^ n) (mod-lt x (pow_pos n)) ∙ split x n)

  linear-equal : (n : ℕ) → agree f g n ≡ true → (x : ℕ) → x < 2 ^ n → f x ≡ g x
  linear-equal zero t x h = ap f (lt-one h) ∙ at_zero f p ∙ sym (ap g (lt-one h) ∙ at_zero g q)
  linear-equal (suc n) t x h =
      ap f (cut n x)
      ∙ p (x / 2 ^ n * 2 ^ n) (x % 2 ^ n)
      ∙ ap₂ bit_xor
      (top n (x / 2 ^ n) (shr_lt 1 n (subst (λ (k : ℕ). x < 2 ^ k) (sym (one-add n)) h)) (eqb-true (f (2 ^ n)) (g (2 ^ n)) (and_left (eqb (f (2 ^ n)) (g (2 ^ n))) (agree f g n) t)))
      (linear-equal n (and_right (eqb (f (2 ^ n)) (g (2 ^ n))) (agree f g n) t) (x % 2 ^ n) (mod-lt x (pow_pos n)))
      ∙ sym (q (x / 2 ^ n * 2 ^ n) (x % 2 ^ n))
      ∙ sym (ap g (cut n x))

-- ---- sixty-four steps by shifts

-- the inverse of the generator, and the generator below its highest power
abbrev up_shifts : List ℕ
up_shifts = 63 ∷ 61 ∷ 60 ∷ 58 ∷ 55 ∷ 54 ∷ 53 ∷ 50 ∷ 48 ∷ 47 ∷ 45 ∷ 44 ∷ 37 ∷ 34 ∷ 32 ∷ 31 ∷ 30 ∷ 29 ∷ 28 ∷ 26 ∷ 25 ∷ 24 ∷ 16 ∷ 12 ∷ 10 ∷ 9 ∷ 6 ∷ []

abbrev down_shifts : List ℕ
down_shifts = 32 ∷ 33 ∷ 34 ∷ 36 ∷ 37 ∷ 39 ∷ 40 ∷ 42 ∷ 43 ∷ 44 ∷ 48 ∷ 54 ∷ 55 ∷ []

abbrev pub shifts : ℕ → ℕ
shifts w = shifted_down 58 down_shifts (shifted_up up_shifts w)

shifts-xor : Linear shifts
shifts-xor a b = ap (shifted_down 58 down_shifts) (shifted_up-xor up_shifts a b) ∙ shifted_down-xor 58 down_shifts (shifted_up up_shifts a) (shifted_up up_shifts b)

shifts-agree : agree shifts (steps 64) 64 ≡ true
unfolding steps step
shifts-agree = refl

pub shifts-steps : (w : ℕ) → w < 2 ^ 64 → shifts w ≡ steps 64 w
shifts-steps w h = linear-equal shifts (steps 64) shifts-xor (steps-xor 64) 64 shifts-agree w h

pub shifts-lt : (w : ℕ) → w < 2 ^ 64 → shifts w < 2 ^ 32
shifts-lt w h = subst (λ (x : ℕ). x < 2 ^ 32) (sym (shifts-steps w h)) (steps-reduce 64 w (lt_of_lt_of_le h (lit≤ tt)))
