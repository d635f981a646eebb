-- Laws of the shifted bytes of a sector. Assumes nothing.
use Rattle.std.proofs.Common.{◌≡◌, ℕ, zero, suc, ◌+◌, ◌<◌, List, [], ◌∷◌, ◌++◌, length, get_or, take, sym, refl, ap, ◌∙◌, le_of_suc-le-suc, not-suc-le-zero, add-zero, add-suc, suc-add, zero-add, add-one, arith, length-take-le, take-suc}
use lib.Seq.{take-length}
use Rattle.sector.specs.Byte.{shifted_of}
use Rattle.sector.specs.Fit.{shift_from, shifted_list, fit_of, sector_of}

module _ (o k : ℕ) where
  pub shift-append : (i : ℕ) (a b : List ℕ) → shift_from o k i (a ++ b) ≡ shift_from o k i a ++ shift_from o k (i + length a) b
  unfolding shift_from
  shift-append i [] b = ap (λ (n : ℕ). shift_from o k n b) (sym (add-zero i))
  shift-append i (x ∷ a) b =
      ap (λ (l : List ℕ). shifted_of x o i k ∷ l)
      (shift-append (suc i) a b ∙ ap (λ (n : ℕ). shift_from o k (suc i) a ++ shift_from o k n b) (suc-add i (length a) ∙ sym (add-suc i (length a))))

  pub shift-length : (i : ℕ) (l : List ℕ) → length (shift_from o k i l) ≡ length l
  unfolding shift_from
  shift-length i [] = refl
  shift-length i (x ∷ l) = ap suc (shift-length (suc i) l)

  pub shift-at : (l : List ℕ) (j i : ℕ) → i < length l → get_or (shift_from o k j l) i 0 ≡ shifted_of (get_or l i 0) o (j + i) k
  unfolding shift_from
  shift-at [] j i h = absurd (not-suc-le-zero h)
  shift-at (x ∷ l) j zero h = ap (λ (n : ℕ). shifted_of x o n k) (sym (add-zero j))
  shift-at (x ∷ l) j (suc i) h = shift-at l (suc j) i (le_of_suc-le-suc h) ∙ ap (λ (n : ℕ). shifted_of (get_or l i 0) o n k) (suc-add j i ∙ sym (add-suc j i))

  pub shifted_at : (l : List ℕ) (i : ℕ) → i < length l → get_or (shifted_list o k l) i 0 ≡ shifted_of (get_or l i 0) o i k
  shifted_at l i h = shift-at l 0 i h ∙ ap (λ (n : ℕ). shifted_of (get_or l i 0) o n k) (zero-add i)

  -- one byte more, and all
  pub shift-more : (l : List ℕ) (i : ℕ) → i < length l → shifted_list o k (take (i + 1) l) ≡ shifted_list o k (take i l) ++ (shifted_of (get_or l i 0) o i k ∷ [])
  unfolding shift_from
  shift-more l i h =
      ap (λ (n : ℕ). shifted_list o k (take n l)) (add-one i)
      ∙ ap (shifted_list o k) (take-suc l i 0 h)
      ∙ shift-append 0 (take i l) (get_or l i 0 ∷ [])
      ∙ ap (λ (n : ℕ). shifted_list o k (take i l) ++ (shifted_of (get_or l i 0) o n k ∷ [])) (zero-add (length (take i l)) ∙ length-take-le i l (omega arith))

  pub shift-all : (l : List ℕ) (i : ℕ) → i ≡ length l → shifted_list o k (take i l) ≡ shifted_list o k l
  shift-all l i e = ap (λ (n : ℕ). shifted_list o k (take n l)) e ∙ ap (shifted_list o k) (take-length l)

-- a sector has as many shifted bytes as bytes, each shifted by its place and the step of the fit
module _ (o : ℕ) (l : List ℕ) where
  pub sector-length : length (sector_of o l) ≡ length l
  unfolding sector_of
  sector-length = shift-length o (fit_of o l).step 0 l

  pub sector-at : (i : ℕ) → i < length l → get_or (sector_of o l) i 0 ≡ shifted_of (get_or l i 0) o i (fit_of o l).step
  unfolding sector_of
  sector-at i h = shifted_at o (fit_of o l).step l i h
