-- Insertion into a list, by any test of which of two numbers comes first. Assumes nothing.
use Rattle.std.specs.Prelude.{ℕ, Bool, List, [], ◌∷◌}
use Rattle.lists.specs.Cases.{pick}

-- x put before the first number that it comes before
unfoldable pub insert : (ℕ → ℕ → Bool) → ℕ → List ℕ → List ℕ
insert before x [] = x ∷ []
insert before x (y ∷ l) = pick (before x y) (x ∷ y ∷ l) (y ∷ insert before x l)
