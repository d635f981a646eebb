-- A sparse multiple of the generator: where it says that x ^ n is a sum of a few lower powers, n steps are a sum of a few shorter runs.
-- That is computed once, at the number 1, and holds of every number that enough further steps reduce. Assumes nothing.
use mathlib.Core.Path.{◌≡◌, refl, sym, ap, ap₂, ◌∙◌}
use Prim.Native.Nat.{ℕ, zero, suc, ◌*◌, ◌/◌, ◌%◌, ◌^◌, ◌<◌}
use native.Mathlib.Nat.{mod-lt, div-add-mod', pow-suc, add-zero}
use native.Mathlib.Omega.{arith}
use lib.Arith.{lt-one}
use lib.Bits.{bit_xor, xor_zero_r, xor_shifted}
use lib.Dec.{lit<}
use Rattle.checksum.specs.Register.{step, steps}
use Rattle.checksum.proofs.Xor.{xor-swap}
use Rattle.checksum.proofs.Steps.{steps-zero, step-xor, step-digit, steps-xor}

-- a map that keeps sums and commutes with a step
record StepLinear (f : ℕ → ℕ) : Type 0 where
  adds : (a b : ℕ) → f (bit_xor a b) ≡ bit_xor (f a) (f b)
  commutes : (a : ℕ) → step (f a) ≡ f (step a)

steps-commute : (n a : ℕ) → step (steps n a) ≡ steps n (step a)
unfolding steps
steps-commute zero a = refl
steps-commute (suc n) a = steps-commute n (step a)

steps-linear : (n : ℕ) → StepLinear (steps n)
steps-linear n = record { adds = steps-xor n; commutes = steps-commute n }

same-linear : StepLinear (λ x. x)
same-linear = record { adds = λ a b. refl; commutes = λ a. refl }

plus-linear : (f g : ℕ → ℕ) → StepLinear f → StepLinear g → StepLinear (λ x. bit_xor (f x) (g x))
plus-linear f g p q =
    record {
      adds = λ a b. ap₂ bit_xor (p.adds a b) (q.adds a b) ∙ xor-swap (f a) (f b) (g a) (g b);
      commutes = λ a. step-xor (f a) (g a) ∙ ap₂ bit_xor (p.commutes a) (q.commutes a);
    }

module _ (f g : ℕ → ℕ) (p : StepLinear f) (q : StepLinear g) (zeros : f 0 ≡ g 0) (ones : f 1 ≡ g 1) where
  at-bit : (r : ℕ) → r < 2 → f r ≡ g r
  at-bit zero h = zeros
  at-bit (suc zero) h = ones
  at-bit (suc (suc r)) h = absurd (omega arith)

  halved : (y : ℕ) → step (y * 2) ≡ y
  halved y = ap step (sym (add-zero (y * 2))) ∙ step-digit y 0 (lit< tt) ∙ xor_zero_r y

  digits : (x : ℕ) → x ≡ bit_xor (x / 2 * 2) (x % 2)
  digits x = sym (xor_shifted (x / 2) 1 (x % 2) (mod-lt x (lit< tt)) ∙ div-add-mod' x 2)

  -- two such maps that agree at 1 agree on every number of m bits, after m steps
  equal-at-one : (m x : ℕ) → x < 2 ^ m → steps m (f x) ≡ steps m (g x)
  unfolding steps
  equal-at-one zero x h = ap f (lt-one h) ∙ zeros ∙ sym (ap g (lt-one h))
  equal-at-one (suc m) x h =
      let y = x / 2 in
      let hy : y < 2 ^ m = omega (arith, rw pow-suc at h) in
      let e : steps m (step (f (y * 2))) ≡ steps m (step (g (y * 2))) =
      ap (steps m) (p.commutes (y * 2) ∙ ap f (halved y)) ∙ equal-at-one m y hy
      ∙ sym (ap (steps m) (q.commutes (y * 2) ∙ ap g (halved y))) in
      let d : steps m (step (f (x % 2))) ≡ steps m (step (g (x % 2))) =
      ap (λ (z : ℕ). steps m (step z)) (at-bit (x % 2) (mod-lt x (lit< tt))) in
      ap (λ (z : ℕ). steps m (step (f z))) (digits x)
      ∙ ap (λ (z : ℕ). steps m (step z)) (p.adds (y * 2) (x % 2))
      ∙ steps-xor (suc m) (f (y * 2)) (f (x % 2))
      ∙ ap₂ bit_xor e d
      ∙ sym (steps-xor (suc m) (g (y * 2)) (g (x % 2)))
      ∙ sym (ap (λ (z : ℕ). steps m (step z)) (q.adds (y * 2) (x % 2)))
      ∙ sym (ap (λ (z : ℕ). steps m (step (g z))) (digits x))

-- x ^ n = x ^ a + x ^ b + x ^ c + 1, modulo the generator, if the steps say so of 1
module _ (n a b c : ℕ) where
  few : ℕ → ℕ
  few x = bit_xor (steps a x) (bit_xor (steps b x) (bit_xor (steps c x) x))

  few-linear : StepLinear few
  unfolding few
  few-linear =
      plus-linear (steps a) (λ x. bit_xor (steps b x) (bit_xor (steps c x) x)) (steps-linear a)
      (plus-linear (steps b) (λ x. bit_xor (steps c x) x) (steps-linear b)
      (plus-linear (steps c) (λ x. x) (steps-linear c) same-linear))

  few-zero : steps n 0 ≡ few 0
  unfolding few
  few-zero = steps-zero n ∙ sym (rw (steps-zero a, steps-zero b, steps-zero c) refl)

  pub sparse : steps n 1 ≡ bit_xor (steps a 1) (bit_xor (steps b 1) (bit_xor (steps c 1) 1)) → (m x : ℕ) → x < 2 ^ m
      → steps m (steps n x) ≡ steps m (bit_xor (steps a x) (bit_xor (steps b x) (bit_xor (steps c x) x)))
  unfolding few
  sparse one = equal-at-one (steps n) few (steps-linear n) few-linear few-zero one

pub sparse-300 : (m x : ℕ) → x < 2 ^ m
    → steps m (steps 300 x) ≡ steps m (bit_xor (steps 155 x) (bit_xor (steps 117 x) (bit_xor (steps 89 x) x)))
unfolding steps step
sparse-300 = sparse 300 155 117 89 refl

-- the eighth power of that, which speaks of octets
pub sparse-2400 : (m x : ℕ) → x < 2 ^ m
    → steps m (steps 2400 x) ≡ steps m (bit_xor (steps 1240 x) (bit_xor (steps 936 x) (bit_xor (steps 712 x) x)))
unfolding steps step
sparse-2400 = sparse 2400 1240 936 712 refl
