-- How many have few before them: of numbers that differ, at most m have fewer than m greater ones. Assumes nothing.
use Prim.Native.Nat.{ℕ, zero, suc, ◌+◌, ◌≤◌, ◌<◌}
use mathlib.Core.Path.{◌≡◌, refl}
use mathlib.Core.Bool.{Bool, true, false, ◌||◌}
use mathlib.Core.Logic.{⊎_elim}
use native.Mathlib.Nat.{not-suc-le-zero, eq-or-lt_of_le}
use native.Mathlib.Decide.{dec_lt}
use native.Mathlib.Omega.{arith}
use borrow.Author.Tests.{eq-eqb, ne_eqb, ltb-true, ltb-false}
use lib.Dec.{eqb, ltb}
use Rattle.lists.specs.Counts.{how_many}
use Rattle.lists.proofs.Booleans.{or-no-left, or-no-right}
use Rattle.lists.proofs.Picks.{never_both}
use Rattle.lists.proofs.Many.{many-zero, many-one, many-either, many-beyond}

module _ (f : ℕ → ℕ) (n m : ℕ) (apart : (u v : ℕ) → u < n → v < n → f u ≡ f v → u ≡ v) where
  abbrev leads : ℕ → Bool
  leads v = ltb (how_many (λ w. ltb (f v) (f w)) n) m

  -- were there more than m, each would have another one below it, without end
  descend : m < how_many leads n → (k v : ℕ) → v < n → leads v ≡ true → f v < k → ⊥
  descend more zero v h e l = not-suc-le-zero l
  descend more (suc k) v h e l =
      let few : how_many (λ w. ltb (f v) (f w)) n < m = ltb-true (how_many (λ w. ltb (f v) (f w)) n) m e in
      let one : how_many (λ w. eqb w v) n ≤ 1 = many-one (λ w. eqb w v) n v (λ w q. ne_eqb w v) in
      let both : how_many (λ w. ltb (f v) (f w) || eqb w v) n ≤ m = omega (arith, many-either (λ w. ltb (f v) (f w)) (λ w. eqb w v) n) in
      many-beyond leads (λ w. ltb (f v) (f w) || eqb w v) ⊥ n (omega arith)
      (λ u hu q r.
      let other : u ≡ v → ⊥ = λ s. never_both (or-no-right (ltb (f v) (f u)) (eqb u v) r) (eq-eqb u v s) in
      let below : f u ≤ f v = ltb-false (f v) (f u) (or-no-left (ltb (f v) (f u)) (eqb u v) r) in
      let strict : f u < f v = ⊎_elim (λ s. absurd (other (apart u v hu h s))) (λ s. s) (eq-or-lt_of_le below) in
      descend more k u hu q (omega arith))

  pub few-lead : how_many leads n ≤ m
  few-lead = go (dec_lt m (how_many leads n))
    where
      go : Dec (m < how_many leads n) → how_many leads n ≤ m
      go (no l) = omega arith
      go (yes more) =
          absurd
          (many-beyond leads (λ v. false) ⊥ n (omega (arith, many-zero (λ v. false) n (λ k l. refl)))
          (λ v h e q. descend more (f v + 1) v h e (omega arith)))
