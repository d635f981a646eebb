-- Zeros are the bytes of the number 0. Assumes nothing.
use Rattle.std.proofs.Common.{ℕ, zero, suc, ◌≡◌, refl, ap, ◌∷◌, List, replicate}
use Rattle.numbers.specs.Numbers.{little_bytes}

pub zeros-little : (n : ℕ) → replicate n 0 ≡ little_bytes n 0
unfolding little_bytes
zeros-little zero = refl
zeros-little (suc n) = ap (λ (l : List ℕ). 0 ∷ l) (zeros-little n)
