-- Laws of insertion, whatever comes first: nothing is lost, and nothing is added but the one. Assumes nothing.
use Prim.Native.Nat.{ℕ, suc, ◌+◌}
use mathlib.Core.Path.{◌≡◌, refl, ap}
use mathlib.Core.Bool.{Bool, true, false}
use mathlib.Core.List.{List, [], ◌∷◌}
use native.Mathlib.Omega.{arith}
use lib.Dec.{eqb}
use lib.ListN.{length}
use Rattle.lists.specs.Cases.{pick, flag}
use Rattle.lists.specs.Counts.{count}
use Rattle.lists.specs.Sorting.{insert}

module _ (before : ℕ → ℕ → Bool) where
  pub insert-length : (x : ℕ) (l : List ℕ) → length (insert before x l) ≡ suc (length l)
  unfolding insert
  insert-length x [] = refl
  insert-length x (y ∷ l) = go (before x y) (insert-length x l)
    where
      go : (b : Bool) → length (insert before x l) ≡ suc (length l) → length (pick b (x ∷ y ∷ l) (y ∷ insert before x l)) ≡ suc (suc (length l))
      go true h = refl
      go false h = ap suc h

  pub insert-count : (v x : ℕ) (l : List ℕ) → count v (insert before x l) ≡ flag (eqb v x) + count v l
  unfolding insert count
  insert-count v x [] = refl
  insert-count v x (y ∷ l) = go (before x y) (insert-count v x l)
    where
      go :
          (b : Bool)
          → count v (insert before x l) ≡ flag (eqb v x) + count v l
          → count v (pick b (x ∷ y ∷ l) (y ∷ insert before x l)) ≡ flag (eqb v x) + (flag (eqb v y) + count v l)
      go true e = refl
      go false e = omega (arith, e)
