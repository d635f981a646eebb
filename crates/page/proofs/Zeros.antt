-- Four zero bytes, told by the number that they are. Assumes nothing.
use Prim.Native.Nat.{ℕ}
use mathlib.Core.Path.{◌≡◌, refl, sym}
use mathlib.Core.Bool.{Bool, true, false}
use mathlib.Core.List.{List, [], ◌∷◌}
use native.Mathlib.Omega.{arith}
use borrow.Author.Tests.{eq-eqb, eqb-true}
use lib.Dec.{eqb}
use Rattle.lists.specs.Bytes.{four_bytes}
use Rattle.lists.specs.Counts.{all_are}
use Rattle.lists.proofs.Same.{are_at}

-- two tests that pass together are one
pub same_test : (a b : Bool) → (a ≡ true → b ≡ true) → (b ≡ true → a ≡ true) → a ≡ b
same_test true b f g = sym (f refl)
same_test false true f g = g refl
same_test false false f g = refl

-- four bytes are zero if the number that they are is 0
pub four_zero : (a b c d : ℕ) → eqb (four_bytes a b c d) 0 ≡ all_are 0 (a ∷ b ∷ c ∷ d ∷ [])
unfolding all_are
four_zero a b c d = same_test _ _ there back
  where
    there : eqb (four_bytes a b c d) 0 ≡ true → all_are 0 (a ∷ b ∷ c ∷ d ∷ []) ≡ true
    there e =
        let z : four_bytes a b c d ≡ 0 = eqb-true _ _ e in
        rw (eq-eqb 0 a (omega arith), eq-eqb 0 b (omega arith), eq-eqb 0 c (omega arith), eq-eqb 0 d (omega arith))

    back : all_are 0 (a ∷ b ∷ c ∷ d ∷ []) ≡ true → eqb (four_bytes a b c d) 0 ≡ true
    back e =
        let l : List ℕ = a ∷ b ∷ c ∷ d ∷ [] in
        let z : four_bytes a b c d ≡ 0 =
        omega (arith, are_at 0 l 0 e (omega arith), are_at 0 l 1 e (omega arith), are_at 0 l 2 e (omega arith), are_at 0 l 3 e (omega arith)) in
        eq-eqb _ _ z
