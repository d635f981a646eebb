-- Laws of lists of bytes: what is left of one, and how many bytes of its plaintext are zero. Assumes nothing.
use Prim.Native.Nat.{ℕ, suc, ◌+◌, ◌<◌, suc-le-suc, zero-le}
use mathlib.Core.Path.{◌≡◌, refl, sym, ap₂, ◌∙◌}
use mathlib.Core.Bool.{Bool}
use mathlib.Core.List.{List, [], ◌∷◌}
use native.Mathlib.Decide.{ℕ_discrete}
use native.Mathlib.Omega.{arith}
use borrow.Author.Tests.{eq-eqb, ne_eqb}
use lib.Dec.{eqb}
use Rattle.lists.specs.Cases.{flag}
use Rattle.lists.specs.Bytes.{less, plain_of, AllBytes}
use Rattle.lists.specs.Counts.{count}

pub bytes-tail : (x : ℕ) (l : List ℕ) → AllBytes (x ∷ l) → AllBytes l
bytes-tail x l b = record { at = λ k h. b.at (suc k) (suc-le-suc h) }

-- a plain byte is zero where the shifted byte is bv
zero-where : (x bv : ℕ) → x < 256 → bv < 256 → eqb 0 (less x bv) ≡ eqb bv x
zero-where x bv h k = go (ℕ_discrete bv x)
  where
    go : Dec (bv ≡ x) → eqb 0 (less x bv) ≡ eqb bv x
    go (yes e) = eq-eqb 0 (less x bv) (omega arith) ∙ sym (eq-eqb bv x e)
    go (no ne) = ne_eqb 0 (less x bv) (λ q. ne (omega arith)) ∙ sym (ne_eqb bv x ne)

pub count-plain : (bv : ℕ) (xs : List ℕ) → bv < 256 → AllBytes xs → count 0 (plain_of bv xs) ≡ count bv xs
unfolding plain_of count
count-plain bv [] h b = refl
count-plain bv (x ∷ xs) h b =
    ap₂ (λ (t : Bool) (n : ℕ). flag t + n) (zero-where x bv (b.at 0 (suc-le-suc zero-le)) h) (count-plain bv xs h (bytes-tail x xs b))
