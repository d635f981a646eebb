-- The definition computed: the check value that the catalogues give for CRC-32, that of the nine octets "123456789". Assumes nothing.
use mathlib.Core.Path.{◌≡◌, refl}
use mathlib.Core.List.{[], ◌∷◌}
use Rattle.lists.specs.Counts.{is_in}
use Rattle.checksum.specs.Poly.{divide, remainder}
use Rattle.checksum.specs.V42.{remainders, fcs, crc32_of}

pub check-value : crc32_of (49 ∷ 50 ∷ 51 ∷ 52 ∷ 53 ∷ 54 ∷ 55 ∷ 56 ∷ 57 ∷ []) ≡ 0xCBF43926
unfolding is_in divide remainder remainders fcs crc32_of
check-value = refl
