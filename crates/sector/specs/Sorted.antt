-- Numbers sorted, the greatest first: what "the second greatest of the 256 counts, ties counted" means. Assumes nothing.
use Rattle.std.specs.Prelude.{ℕ, Bool, List, [], nat_le}
use Rattle.lists.specs.Sorting.{insert}
use Rattle.lists.specs.Pieces.{fold}

abbrev pub not_less : ℕ → ℕ → Bool
not_less x y = nat_le y x

abbrev pub insert_down : List ℕ → ℕ → List ℕ
insert_down s x = insert not_less x s

unfoldable pub sorted_down : List ℕ → List ℕ
sorted_down l = fold insert_down [] l
