-- Private: no part of the rules. Folding: octets are struck out and added further on. The list of sums has 300 places before the octets. Assumes nothing.
use Rattle.std.specs.Prelude.{ℕ, ◌+◌, ◌/◌, ◌%◌, ◌^◌, ◌<◌, ◌≤◌, ◌≡◌, List, ◌∷◌, length, get_or, take, replicate}
use Rattle.std.specs.Int.Bits.{bit_xor}

-- the octet k, with those sums added that stand 145, 183, 211 and 300 places before it
abbrev pub folded_at : List ℕ → List ℕ → ℕ → ℕ
folded_at octets sums k =
    bit_xor (bit_xor (bit_xor (bit_xor (get_or octets k 0) (get_or sums (k + 155) 0)) (get_or sums (k + 117) 0)) (get_or sums (k + 89) 0)) (get_or sums k 0)

-- the 300 places before the octets: the register c, as four octets that are to be added 300 places on
abbrev pub lead_of : ℕ → List ℕ
lead_of c = c % 2 ^ 8 ∷ c / 2 ^ 8 % 2 ^ 8 ∷ c / 2 ^ 16 % 2 ^ 8 ∷ c / 2 ^ 24 % 2 ^ 8 ∷ replicate 296 0

-- the first j octets are folded, from the register c on
pub record Folding (c : ℕ) (octets sums : List ℕ) (j : ℕ) : Type 0 where
  pub size : length sums ≡ 4396
  pub lead : take 300 sums ≡ lead_of c
  pub so_far : (k : ℕ) → k < j → get_or sums (k + 300) 0 ≡ folded_at octets sums k
  pub not_yet : (i : ℕ) → j + 300 ≤ i → get_or sums i 0 ≡ 0

-- the first m of the 304 octets from j on are in `left`, with what the folded ones before add to them
pub record LeftOver (octets sums left : List ℕ) (j m : ℕ) : Type 0 where
  pub size : length left ≡ 304
  pub so_far : (k : ℕ) → k < m → get_or left k 0 ≡ folded_at octets sums (j + k)
