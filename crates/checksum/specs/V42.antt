-- The 32-bit frame check sequence of ITU-T V.42, 8.1.1.6.2, of a list of octets, as a number. Assumes nothing.
use Rattle.std.specs.Prelude.{ℕ, zero, suc, ◌+◌, ◌*◌, ◌/◌, ◌%◌, not, List, [], ◌∷◌, ◌++◌, map, eqb, length}
use Rattle.lists.specs.Cases.{flag}
use Rattle.checksum.specs.Poly.{Poly, sum, times, all_ones, powers, remainder}

-- the generator polynomial
abbrev pub generator : Poly
generator =
    powers 32 (32 ∷ 26 ∷ 23 ∷ 22 ∷ 16 ∷ 12 ∷ 11 ∷ 10 ∷ 8 ∷ 7 ∷ 5 ∷ 4 ∷ 2 ∷ 1 ∷ 0 ∷ [])

-- the k low-order bits of a number in the order in which they are sent, the lowest first
abbrev pub bits_of : ℕ → ℕ → Poly
bits_of zero x = []
bits_of (suc k) x = eqb (x % 2) 1 ∷ bits_of k (x / 2)

-- the content of a frame: the bits of its octets as they are sent, the first at the highest power
abbrev pub content : List ℕ → Poly
content [] = []
content (b ∷ bs) = bits_of 8 b ++ content bs

-- the sum (modulo 2) of two remainders by the generator: a) that of x ^ k (x ^ 31 + .. + x + 1), k the number of bits of the content,
-- and b) that of x ^ 32 times the content
unfoldable pub remainders : Poly → Poly
remainders m = sum (remainder (times (length m) (all_ones 32)) generator) (remainder (times 32 m) generator)

-- the frame check sequence is the ones complement of that sum
unfoldable pub fcs : Poly → Poly
fcs m = map not (remainders m)

-- the number whose bits are sent as p, the lowest first
abbrev pub number : Poly → ℕ
number [] = 0
number (b ∷ p) = number p * 2 + flag b

-- the sequence is sent from its highest power on; as a number, its lowest bit is the first
unfoldable pub crc32_of : List ℕ → ℕ
crc32_of bytes = number (fcs (content bytes))
