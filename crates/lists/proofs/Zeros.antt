-- Laws of a list of zeros. Assumes nothing.
use Prim.Native.Nat.{ℕ, zero, suc}
use mathlib.Core.Path.{◌≡◌, refl, sym, ap, ◌∙◌}
use mathlib.Core.List.{List, [], ◌∷◌, ◌++◌, append_assoc}
use lib.ListN.{replicate}
use Rattle.lists.specs.Bytes.{byte_at}

zeros-last : (n : ℕ) → replicate {A = ℕ} n 0 ++ (0 ∷ []) ≡ 0 ∷ replicate n 0
zeros-last zero = refl
zeros-last (suc n) = ap (λ (l : List ℕ). 0 ∷ l) (zeros-last n)

-- two more
pub zeros-two : (n : ℕ) → replicate {A = ℕ} n 0 ++ (0 ∷ 0 ∷ []) ≡ replicate (suc (suc n)) 0
zeros-two n =
    sym (append_assoc (replicate n 0) (0 ∷ []) (0 ∷ []))
    ∙ ap (λ (l : List ℕ). l ++ (0 ∷ [])) (zeros-last n)
    ∙ ap (λ (l : List ℕ). 0 ∷ l) (zeros-last n)

-- at any place, and past the end
pub zeros-at : (n k : ℕ) → byte_at (replicate n 0) k ≡ 0
zeros-at zero k = refl
zeros-at (suc n) zero = refl
zeros-at (suc n) (suc k) = zeros-at n k
