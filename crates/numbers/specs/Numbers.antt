-- Numbers as k bytes, the least first or the greatest first, and the numbers that bytes are. Assumes nothing.
use Rattle.std.specs.Prelude.{ℕ, zero, suc, ◌+◌, ◌*◌, ◌/◌, ◌%◌, List, [], ◌∷◌, ◌++◌}
use Rattle.lists.specs.Bytes.{four_bytes}
use Rattle.lists.specs.Pieces.{fold}

-- "little-endian": the least first
unfoldable pub little_bytes : ℕ → ℕ → List ℕ
little_bytes zero n = []
little_bytes (suc k) n = n % 256 ∷ little_bytes k (n / 256)

unfoldable pub little_endian : List ℕ → ℕ
little_endian [] = 0
little_endian (b ∷ l) = b + 256 * little_endian l

-- "big-endian": the greatest first
unfoldable pub big_bytes : ℕ → ℕ → List ℕ
big_bytes zero n = []
big_bytes (suc k) n = big_bytes k (n / 256) ++ (n % 256 ∷ [])

abbrev pub and_byte : ℕ → ℕ → ℕ
and_byte n b = n * 256 + b

unfoldable pub big_endian : List ℕ → ℕ
big_endian l = fold and_byte 0 l

-- how many numbers k bytes hold
unfoldable pub bound : ℕ → ℕ
bound zero = 1
bound (suc k) = 256 * bound k

-- two and eight bytes, the least first, in closed form; four are `four_bytes` of lists
abbrev pub two_bytes : ℕ → ℕ → ℕ
two_bytes a b = a + 256 * b

abbrev pub eight_bytes : ℕ → ℕ → ℕ → ℕ → ℕ → ℕ → ℕ → ℕ → ℕ
eight_bytes a b c d e f g h = four_bytes a b c d + 4294967296 * four_bytes e f g h
