-- A layout is a list of fields, each a number in some bytes. Assumes nothing.
use Rattle.std.specs.Prelude.{ℕ, ◌+◌, ◌≡◌, List, [], ◌∷◌, ◌++◌}
use Rattle.lists.specs.Bytes.{byte_at}
use Rattle.numbers.specs.Numbers.{little_bytes, big_bytes}
use Rattle.numbers.specs.Writes.{written, past}

-- how many bytes, and the number: the least byte first, or the greatest
pub data Field : Type 0 where
  little : ℕ → ℕ → Field
  big : ℕ → ℕ → Field

unfoldable pub width_of : Field → ℕ
width_of (little k n) = k
width_of (big k n) = k

unfoldable pub field_bytes : Field → List ℕ
field_bytes (little k n) = little_bytes k n
field_bytes (big k n) = big_bytes k n

-- a layout's size, and its bytes
unfoldable pub size_of : List Field → ℕ
size_of [] = 0
size_of (f ∷ fs) = width_of f + size_of fs

unfoldable pub layout_bytes : List Field → List ℕ
layout_bytes [] = []
layout_bytes (f ∷ fs) = field_bytes f ++ layout_bytes fs

-- a buffer, and a place in it, after each field was put behind the one before
unfoldable pub puts : List ℕ → ℕ → List Field → List ℕ
puts l at [] = l
puts l at (f ∷ fs) = puts (written l at (field_bytes f)) (past l at (width_of f)) fs

unfoldable pub place_after : List ℕ → ℕ → List Field → ℕ
place_after l at [] = at
place_after l at (f ∷ fs) = place_after (written l at (field_bytes f)) (past l at (width_of f)) fs

-- what a function that puts fields leaves in the buffer, and the place that it returns
pub record Put (l : List ℕ) (at : ℕ) (fs : List Field) (after : List ℕ) (next : ℕ) : Type 0 where
  pub bytes : after ≡ puts l at fs
  pub place : next ≡ place_after l at fs

-- an entry of a table of numbers of two bytes: 0 in a place that is not used
abbrev pub pair_entry : List ℕ → ℕ → List Field
pair_entry numbers k = little 2 (byte_at numbers k) ∷ []
