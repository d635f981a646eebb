-- Document 01, "The program": lines of hexadecimal. Assumes nothing.
use Rattle.std.specs.Prelude.{ℕ, ◌+◌, ◌-◌, ◌*◌, ◌/◌, ◌%◌, Bool, ◌&&◌, List, [], ◌∷◌, length, nat_le, nat_lt}
use Rattle.lists.specs.Cases.{pick}
use Rattle.lists.specs.Bytes.{byte_at}
use Rattle.lists.specs.Counts.{greatest}
use Rattle.lists.specs.Pieces.{each, over}

-- ---- digits read

abbrev pub is_from : ℕ → ℕ → ℕ → Bool
is_from a z c = nat_le a c && nat_le c z

-- "Digits have either case": 0 to 9, A to F, a to f; of a character that is no digit, 16
unfoldable pub digit_of : ℕ → ℕ
digit_of c = pick (is_from 48 57 c) (c - 48) (pick (is_from 65 70 c) (c - 55) (pick (is_from 97 102 c) (c - 87) 16))

abbrev pub value_at : List ℕ → ℕ → ℕ
value_at line i = digit_of (byte_at line i)

unfoldable pub digit_values : List ℕ → List ℕ
digit_values line = each (value_at line) (length line)

-- a line has digits alone: the greatest value is below 16
unfoldable pub worst_of : List ℕ → ℕ
worst_of line = greatest (value_at line) (length line)

abbrev pub all_digits : List ℕ → Bool
all_digits line = nat_lt (worst_of line) 16

-- the bytes that digits spell, pair by pair
abbrev pub spelled_at : List ℕ → ℕ → ℕ
spelled_at line i = value_at line (i + i) * 16 + value_at line (i + i + 1)

unfoldable pub spelled : List ℕ → List ℕ
spelled line = each (spelled_at line) (length line / 2)

-- ---- digits written

-- "lower case": the digit that has a value below 16
abbrev pub lower_digit : ℕ → ℕ
lower_digit v = pick (nat_lt v 10) (48 + v) (87 + v)

-- two digits for each byte
unfoldable pub hexed : List ℕ → List ℕ
hexed [] = []
hexed (b ∷ l) = lower_digit (b / 16) ∷ lower_digit (b % 16) ∷ hexed l

-- ---- what the functions leave in a buffer, and answer: all, or nothing where it does not fit

unfoldable pub values_into : List ℕ → List ℕ → List ℕ
values_into line values = pick (nat_le (length line) (length values)) (over values 0 (digit_values line)) values

unfoldable pub worst_in : ℕ → List ℕ → ℕ
worst_in room line = pick (nat_le (length line) room) (worst_of line) 16

-- the byte that two values, side by side, make
abbrev pub value_pair : List ℕ → ℕ → ℕ
value_pair values i = (byte_at values (i + i) * 16 + byte_at values (i + i + 1)) % 256

unfoldable pub paired_into : List ℕ → List ℕ → List ℕ
paired_into values bytes = pick (nat_le (length values / 2) (length bytes)) (over bytes 0 (each (value_pair values) (length values / 2))) bytes

abbrev pub hex_fits : List ℕ → List ℕ → Bool
hex_fits bytes out = nat_le (length bytes) (length out / 2)

unfoldable pub hexed_into : List ℕ → List ℕ → List ℕ
hexed_into bytes out = pick (hex_fits bytes out) (over out 0 (hexed bytes)) out

unfoldable pub hexed_number : List ℕ → List ℕ → ℕ
hexed_number bytes out = pick (hex_fits bytes out) (length bytes + length bytes) 0
