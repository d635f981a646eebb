-- Private: no part of the rules. The shift register, which the contracts of private functions speak of. That its complement is the sequence
-- of V.42 is a theorem (proofs/Definition.antt). Assumes nothing.
use Rattle.std.specs.Prelude.{ℕ, zero, suc, ◌+◌, ◌*◌, ◌/◌, ◌%◌, ◌^◌, List, length}
use Rattle.std.specs.Int.Bits.{bit_xor}
use Rattle.checksum.specs.V42.{content, number}

-- the generator without its highest power, the coefficient of x ^ 31 at the low-order bit
abbrev pub taps : ℕ
taps = 0xEDB88320

-- one step: the low-order bit goes out, and where it was 1 the generator is added, modulo 2
unfoldable pub step : ℕ → ℕ
step x = bit_xor (x / 2) (x % 2 * taps)

unfoldable pub steps : ℕ → ℕ → ℕ
steps zero x = x
steps (suc n) x = steps n (step x)

-- some octets as one number, the first the lowest
abbrev pub value_of : List ℕ → ℕ
value_of bytes = number (content bytes)

-- the register after the bits of some octets, sent in order, from c on
unfoldable pub register_after : ℕ → List ℕ → ℕ
register_after c bytes = steps (length (content bytes)) (bit_xor c (value_of bytes))

-- five words of 64 bits as one number, the first the lowest: a register of 320 bits
unfoldable pub wide_register : ℕ → ℕ → ℕ → ℕ → ℕ → ℕ
wide_register n1 n2 n3 n4 n5 = (((n5 * 2 ^ 64 + n4) * 2 ^ 64 + n3) * 2 ^ 64 + n2) * 2 ^ 64 + n1
