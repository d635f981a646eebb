-- Laws of a number that is alone the greatest: its place, the second greatest, and that none ties with it. Assumes nothing.
use Rattle.std.proofs.Common.{◌≡◌, ℕ, ◌<◌, ◌≤◌, true, false, eqb, sym, ap, ◌∙◌, arith, eq-eqb, ne_eqb}
use native.Mathlib.Decide.{ℕ_discrete}
use Rattle.lists.specs.Counts.{greatest}
use Rattle.lists.proofs.Greatest.{greatest-above, greatest-below}
use Rattle.lists.proofs.Least.{least-is}
use Rattle.lists.proofs.Many.{many-some, many-one}
use Rattle.sector.specs.Fit.{top_place, but_at, second, ties}
use Rattle.sector.proofs.Leads.{but-here, but-there}

-- f s, where no other is greater than h, which is less
module _ (f : ℕ → ℕ) (n s h : ℕ) (hs : s < n) (below : (k : ℕ) → k < n → (k ≡ s → ⊥) → f k ≤ h) (high : h < f s) where
  rest_le : (k : ℕ) → k < n → f k ≤ f s
  rest_le k q = go (ℕ_discrete k s)
    where
      go : Dec (k ≡ s) → f k ≤ f s
      go (yes e) = omega (arith, ap f e)
      go (no ne) = omega (arith, below k q ne)

  pub lone-greatest : greatest f n ≡ f s
  lone-greatest = omega (arith, greatest-above f n s hs, greatest-below f n (f s) rest_le)

  here : eqb (f s) (greatest f n) ≡ true
  here = eq-eqb (f s) (greatest f n) (sym lone-greatest)

  others : (k : ℕ) → k < n → (k ≡ s → ⊥) → eqb (f k) (greatest f n) ≡ false
  others k q ne = ne_eqb (f k) (greatest f n) (λ e. omega (arith, e, below k q ne, lone-greatest))

  pub lone-place : top_place f n ≡ s
  unfolding top_place
  lone-place = least-is (λ k. eqb (f k) (greatest f n)) n s hs here (λ j q. others j (omega arith) (λ e. omega arith))

  pub lone-ties : ties f n ≡ 1
  unfolding ties
  lone-ties = omega (arith, many-some (λ k. eqb (f k) (greatest f n)) n s hs here, many-one (λ k. eqb (f k) (greatest f n)) n s others)

  -- where another is h, that is the second
  pub lone-second : (far : ℕ) → far < n → (far ≡ s → ⊥) → f far ≡ h → second f n ≡ h
  unfolding second
  lone-second far hf ne e =
      ap (λ (p : ℕ). greatest (but_at f p) n) lone-place
      ∙ omega (
        arith,
        e,
        but-there f s far ne,
        greatest-above (but_at f s) n far hf,
        greatest-below (but_at f s) n h (λ k q. rest k q (ℕ_discrete k s)),
      )
    where
      rest : (k : ℕ) → k < n → Dec (k ≡ s) → but_at f s k ≤ h
      rest k q (yes e) = omega (arith, ap (but_at f s) e, but-here f s)
      rest k q (no ne) = omega (arith, but-there f s k ne, below k q ne)
