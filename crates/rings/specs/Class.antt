-- Every q-th byte of a sector: class r of q has the bytes at r, q + r, 2 q + r and so on. Assumes nothing.
use Rattle.std.specs.Prelude.{ℕ, ◌+◌, ◌*◌, min, List, nat_eq}
use Rattle.lists.specs.Bytes.{byte_at}
use Rattle.lists.specs.Counts.{how_many}
use Rattle.sector.specs.Byte.{shifted_of}

-- how many of the first n bytes of class r of q are v, once byte j of the class is shifted by the offset and by j times k
unfoldable pub class_count : List ℕ → ℕ → ℕ → ℕ → ℕ → ℕ → ℕ → ℕ
class_count l q r offset k n v = how_many (λ j. nat_eq v (shifted_of (byte_at l (q * j + r)) offset j k)) n

-- a count that stops at 255
abbrev pub cap : ℕ → ℕ
cap n = min 255 n
