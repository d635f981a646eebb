-- All bytes of a list are equal where all are the first, and where its modal count is its length. Assumes nothing.
use Rattle.std.proofs.Common.{◌≡◌, ℕ, suc, ◌<◌, ◌≤◌, Bool, true, false, eqb, List, [], ◌∷◌, length, refl, ap, arith, eq-eqb, ne_eqb, eqb-true}
use Rattle.std.proofs.Common.{slice_get, Some, None}
use native.Mathlib.Decide.{ℕ_discrete}
use Rattle.lists.specs.Counts.{count, all_are, all_same}
use Rattle.lists.proofs.Count.{count-le, count-here, count-there}
use Rattle.lists.proofs.Greatest.{greatest-above, greatest-below}
use Rattle.lists.proofs.Same.{are-count, not-count}
use Rattle.sector.specs.Byte.{shifted_of}
use Rattle.sector.specs.Fit.{shift_from, shifted_list, modal_of, modal_at}
use Rattle.sector.proofs.Bytes.{shifted-byte}

-- all are equal where all are the first, or there is none
pub same_first : (l : List ℕ) (x : ℕ) → slice_get l 0 ≡ Some x → all_are x l ≡ all_same l
unfolding all_are all_same
same_first [] x e = grind (arith, e)
same_first (y ∷ l) x e = grind (arith, eq-eqb x x refl, e)

pub same_empty : (l : List ℕ) → slice_get l 0 ≡ None → true ≡ all_same l
unfolding all_same
same_empty [] e = refl
same_empty (x ∷ l) e = grind (arith, e)

modal-le : (l : List ℕ) → modal_of l ≤ length l
unfolding modal_of
modal-le l = greatest-below (λ v. count v l) 256 (length l) (λ v h. count-le v l)

exact-cons : (x : ℕ) (l : List ℕ) → x < 256 → eqb (modal_of (x ∷ l)) (length (x ∷ l)) ≡ all_same (x ∷ l)
unfolding modal_of all_same
exact-cons x l hx = go (all_are x l) refl
  where
    go : (b : Bool) → all_are x l ≡ b → eqb (modal_of (x ∷ l)) (suc (length l)) ≡ b
    go true e =
        let above : count x (x ∷ l) ≤ modal_of (x ∷ l) = greatest-above (λ v. count v (x ∷ l)) 256 x hx in
        eq-eqb (modal_of (x ∷ l)) (suc (length l)) (omega (arith, count-here x l, are-count x l e, modal-le (x ∷ l)))
    go false e =
        let below : modal_of (x ∷ l) ≤ length l = greatest-below (λ v. count v (x ∷ l)) 256 (length l) (λ v h. one v (ℕ_discrete v x)) in
        ne_eqb (modal_of (x ∷ l)) (suc (length l)) (λ q. omega arith)
      where
        one : (v : ℕ) → Dec (v ≡ x) → count v (x ∷ l) ≤ length l
        one v (yes q) =
            let s : count v (x ∷ l) ≡ count x (x ∷ l) = ap (λ (n : ℕ). count n (x ∷ l)) q in
            omega (arith, count-here x l, not-count x l e)
        one v (no ne) = omega (arith, count-there v x l ne, count-le v l)

exact_none : eqb (modal_of []) (length {A = ℕ} []) ≡ all_same []
unfolding all_same
exact_none = eq-eqb (modal_of []) 0 (omega (arith, modal-le []))

pub exact-shifted : (o k : ℕ) (l : List ℕ) → eqb (modal_of (shifted_list o k l)) (length (shifted_list o k l)) ≡ all_same (shifted_list o k l)
unfolding shift_from
exact-shifted o k [] = exact_none
exact-shifted o k (b ∷ l) = exact-cons (shifted_of b o 0 k) (shift_from o k 1 l) (shifted-byte b o 0 k)

-- of a sector of at most one byte all bytes agree, whatever the step
pub modal-short : (o k : ℕ) (l : List ℕ) → length l ≤ 1 → modal_at o l k ≡ length l
unfolding modal_at shift_from all_same all_are
modal-short o k [] h = eqb-true (modal_of []) 0 exact_none
modal-short o k (b ∷ []) h = eqb-true (modal_of (shifted_of b o 0 k ∷ [])) 1 (exact-shifted o k (b ∷ []))
modal-short o k (b ∷ c ∷ l) h = absurd (omega arith)
