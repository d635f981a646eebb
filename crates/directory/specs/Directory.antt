-- Document 01, "Slots and rows": the slots of a directory at `start` with `count` slots, and those that point into it. Assumes nothing.
use Rattle.std.specs.Prelude.{ℕ, zero, suc, ◌+◌, ◌*◌, ◌≤◌, ◌<◌, List, [], ◌∷◌, Bool, ◌&&◌, ltb, leb, eqb, length, Option, Some, None}
use Rattle.lists.specs.Cases.{pick}
use Rattle.lists.specs.Bytes.{pair_at}
use Rattle.lists.specs.Pieces.{each, keep}

-- the slots, in array order
abbrev pub slots_of : List ℕ → ℕ → ℕ → List ℕ
slots_of plain start count = each (λ k. pair_at plain (start + 2 * k)) count

-- "a live offset inside the directory": array start <= offset < end, so that the count field, the gap and the end are outside
unfoldable pub is_inside : ℕ → ℕ → ℕ → Bool
is_inside start stop v = ltb 0 v && (leb start v && ltb v stop)

unfoldable pub inside_of : List ℕ → ℕ → ℕ → List ℕ
inside_of plain start count = keep (is_inside start (start + 2 * count)) (slots_of plain start count)

-- "the first in slot order"
abbrev pub first_of : List ℕ → Option ℕ
first_of [] = None
first_of (v ∷ l) = Some v

-- the last live slot, or 0: only private code needs it
unfoldable pub last_live : List ℕ → ℕ
last_live [] = 0
last_live (v ∷ l) = pick (eqb (last_live l) 0) v (last_live l)

-- the live slots fall strictly, from below prev
abbrev pub Falls : ℕ → List ℕ → Type 0
Falls prev [] = Unit {0}
Falls prev (zero ∷ l) = Falls prev l
Falls prev (suc x ∷ l) = (suc x < prev) × Falls (suc x) l

-- what holds of every directory that the search finds
pub record Sound (plain : List ℕ) (start count : ℕ) : Type 0 where
  pub within : start + 2 * count ≤ length plain
  pub falls : Falls 0xFF0 (slots_of plain start count)
