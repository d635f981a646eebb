-- Document 01, "Offsets, steps, fits": the offset of a sector, and a shifted byte. Assumes nothing.
use Rattle.std.specs.Prelude.{ℕ, ◌+◌, ◌*◌, ◌/◌, ◌%◌}
use Rattle.lists.specs.Bytes.{less}

-- page number and sector, less 4 * floor((page number mod 16) / 2), modulo 256
abbrev pub offset_of : ℕ → ℕ → ℕ
offset_of number sector = less (number + sector) (4 * (number % 16 / 2))

-- byte i of a sector, less the offset, less i * step, modulo 256
unfoldable pub shifted_of : ℕ → ℕ → ℕ → ℕ → ℕ
shifted_of b offset i step = less (less b offset) (i * step)
