-- What `lines_of` is, in the document's words, and worked examples. Assumes nothing.
use Prim.Native.Nat.{ℕ, suc, ◌≤◌}
use mathlib.Core.Path.{◌≡◌, refl, sym, ap, ◌∙◌}
use mathlib.Core.Bool.{Bool, true, false}
use mathlib.Core.List.{List, [], ◌∷◌, ◌++◌, append-nil, append_assoc}
use native.Mathlib.Nat.{not-suc-le-zero, le_of_suc-le-suc}
use lib.Dec.{eqb}
use lib.ListN.{length}
use Rattle.lists.specs.Cases.{pick}
use Rattle.lines.specs.Input.{lines_from, lines_of, up_to}

-- "a line ends at a newline": in front of it there is none
module _ (rest : List ℕ) where
  from-line : (k l : List ℕ) → length l ≤ up_to l → lines_from k (l ++ (10 ∷ rest)) ≡ (k ++ l) ∷ lines_from [] rest
  unfolding up_to lines_from
  from-line k [] h = ap (λ (x : List ℕ). x ∷ lines_from [] rest) (sym (append-nil k))
  from-line k (c ∷ l) h = go (eqb 10 c) (from-line (k ++ (c ∷ [])) l) h
    where
      go : (b : Bool) → (length l ≤ up_to l → lines_from (k ++ (c ∷ [])) (l ++ (10 ∷ rest)) ≡ ((k ++ (c ∷ [])) ++ l) ∷ lines_from [] rest)
          → suc (length l) ≤ pick b 0 (suc (up_to l))
          → pick b (k ∷ lines_from [] (l ++ (10 ∷ rest))) (lines_from (k ++ (c ∷ [])) (l ++ (10 ∷ rest))) ≡ (k ++ (c ∷ l)) ∷ lines_from [] rest
      go true ih g = absurd (not-suc-le-zero g)
      go false ih g = ih (le_of_suc-le-suc g) ∙ ap (λ (x : List ℕ). x ∷ lines_from [] rest) (append_assoc k (c ∷ []) l)

  pub lines-line : (l : List ℕ) → length l ≤ up_to l → lines_of (l ++ (10 ∷ rest)) ≡ l ∷ lines_of rest
  lines-line l h = from-line [] l h

-- "nothing after the last newline is none", "an empty line is a line", "or the end of input"
pub lines_none : lines_of [] ≡ []
unfolding lines_from
lines_none = refl

pub lines-empty : lines_of (10 ∷ 10 ∷ []) ≡ [] ∷ [] ∷ []
unfolding lines_from
lines-empty = refl

pub lines-unfinished : lines_of (97 ∷ 10 ∷ 98 ∷ 99 ∷ []) ≡ (97 ∷ []) ∷ (98 ∷ 99 ∷ []) ∷ []
unfolding lines_from
lines-unfinished = refl
