-- What V.42 says of the receiver: of a frame with its sequence the same sum of remainders is always 1100 0111 0000 0100 1101 1101 0111 1011.
-- Assumes nothing.
use mathlib.Core.Path.{◌≡◌, refl, sym, ap, ap₂, ◌∙◌}
use mathlib.Core.Bool.{true, false, not}
use mathlib.Core.List.{[], ◌∷◌, ◌++◌, map}
use Prim.Native.Nat.{ℕ, ◌+◌, ◌-◌, ◌*◌, ◌^◌}
use native.Mathlib.Omega.{arith}
use lib.Bits.{bit_xor}
use lib.ListN.{length, length-append, length-map}
use Rattle.checksum.specs.Poly.{Poly, sum, all_ones}
use Rattle.checksum.specs.V42.{number, remainders, fcs}
use Rattle.checksum.specs.Register.{step, steps}
use Rattle.checksum.proofs.Steps.{steps-add, steps-over}
use Rattle.checksum.proofs.Definition.{number_lt, number_append, number-sum, remainders-length, remainders-register}

sum-not : (p : Poly) → sum p (map not p) ≡ all_ones (length p)
sum-not [] = refl
sum-not (true ∷ p) = ap (λ (q : Poly). true ∷ q) (sum-not p)
sum-not (false ∷ p) = ap (λ (q : Poly). true ∷ q) (sum-not p)

number-injective : (p q : Poly) → length p ≡ length q → number p ≡ number q → p ≡ q
number-injective [] [] l e = refl
number-injective [] (b ∷ q) l e = absurd (omega arith)
number-injective (a ∷ p) [] l e = absurd (omega arith)
number-injective (true ∷ p) (true ∷ q) l e = ap (λ (r : Poly). true ∷ r) (number-injective p q (omega arith) (omega arith))
number-injective (true ∷ p) (false ∷ q) l e = absurd (omega arith)
number-injective (false ∷ p) (true ∷ q) l e = absurd (omega arith)
number-injective (false ∷ p) (false ∷ q) l e = ap (λ (r : Poly). false ∷ r) (number-injective p q (omega arith) (omega arith))

abbrev pub residue : Poly
residue =
    true ∷ true ∷ false ∷ false ∷ false ∷ true ∷ true ∷ true ∷ false ∷ false ∷ false ∷ false ∷ false ∷ true ∷ false ∷ false
    ∷ true ∷ true ∷ false ∷ true ∷ true ∷ true ∷ false ∷ true ∷ false ∷ true ∷ true ∷ true ∷ true ∷ false ∷ true ∷ true ∷ []

residue-steps : steps 32 (2 ^ 32 - 1) ≡ number residue
unfolding steps step
residue-steps = refl

pub received : (m : Poly) → remainders (m ++ fcs m) ≡ residue
unfolding fcs
received m =
    let k = length m in
    let r = remainders m in
    let f = map not r in
    let lf : length f ≡ 32 = length-map r not ∙ remainders-length m in
    let l : length (m ++ f) ≡ k + 32 = length-append m f ∙ ap (λ (n : ℕ). k + n) lf in
    number-injective (remainders (m ++ f)) residue (remainders-length (m ++ f))
    (remainders-register (m ++ f)
    ∙ ap₂ (λ (n y : ℕ). steps n (bit_xor (2 ^ 32 - 1) y)) l (number_append m f)
    ∙ steps-add k 32 (bit_xor (2 ^ 32 - 1) (number f * 2 ^ k + number m))
    ∙ ap (steps 32)
    (steps-over k (2 ^ 32 - 1) (number f) (number m) (number_lt m)
    ∙ ap (λ (y : ℕ). bit_xor y (number f)) (sym (remainders-register m))
    ∙ sym (number-sum r f)
    ∙ ap number (sum-not r)
    ∙ ap (λ (n : ℕ). number (all_ones n)) (remainders-length m))
    ∙ residue-steps)
