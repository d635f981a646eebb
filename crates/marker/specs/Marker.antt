-- Document 01, "Page, trailer, superblock": whether a marker occurs anywhere. Assumes nothing.
use Rattle.std.specs.Prelude.{ℕ, Bool, true, false, List, [], ◌∷◌, eqb}
use Rattle.lists.specs.Cases.{pick}

-- the bytes begin with those of m
unfoldable pub starts_with : List ℕ → List ℕ → Bool
starts_with [] s = true
starts_with (x ∷ m) [] = false
starts_with (x ∷ m) (y ∷ s) = pick (eqb x y) (starts_with m s) false

-- they begin with m at some place
unfoldable pub occurs_in : List ℕ → List ℕ → Bool
occurs_in m [] = starts_with m []
occurs_in m (y ∷ s) = pick (starts_with m (y ∷ s)) true (occurs_in m s)
