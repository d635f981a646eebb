-- A scan's and a replacement's outcome, by its answer; and the answers, by the checks. Assumes nothing.
use Prim.Native.Nat.{ℕ, ◌*◌, ◌≤◌, ◌<◌}
use mathlib.Core.Path.{◌≡◌, refl, sym, ap}
use mathlib.Core.Bool.{Bool, true, false, ◌&&◌}
use mathlib.Core.List.{List}
use borrow.Author.Tests.{eq-eqb, ne_eqb, lt-ltb, le-ltb, eqb-true}
use lib.Dec.{eqb, ltb}
use lib.ListN.{length, set}
use Rattle.std.specs.Prelude.{Some, None}
use Rattle.lists.specs.Cases.{pick}
use Rattle.lists.specs.Pieces.{over}
use Rattle.lists.proofs.Picks.{never_both}
use Rattle.answers.specs.Answers.{Answer}
use Rattle.answers.specs.declared.kinds.Refusal.{Refusal}
use Rattle.answers.specs.declared.kinds.Refusal.TheVariants.{WrongPageLength, WrongBufferLength, BadReplacement}
use Rattle.sector.specs.Byte.{offset_of}
use Rattle.sector.specs.Fit.{fit_of, sector_of}
use Rattle.sector.specs.declared.fits.Fit.{Fit}
use Rattle.summary.specs.Page.{data_of, fits_of, bytes_of, checked, if_accepted, ok_if, page_scan_of, scanned}
use Rattle.summary.specs.Replace.{sector_answer, replace_answer, replaced, stored_after, shifted_after, Renews}

-- checks 1 and 2, and where both pass the answer x
module _ (n m : ℕ) (x : Answer) where
  pub checked-page : (n ≡ 4096 → ⊥) → Some (WrongPageLength n) ≡ checked n m x
  checked-page h = rw (ne_eqb n 4096 h)

  pub checked-room : n ≡ 4096 → (m ≡ 4080 → ⊥) → Some (WrongBufferLength m) ≡ checked n m x
  checked-room e h = rw (eq-eqb n 4096 e, ne_eqb m 4080 h)

  pub checked-good : n ≡ 4096 → m ≡ 4080 → x ≡ checked n m x
  checked-good e h = rw (eq-eqb n 4096 e, eq-eqb m 4080 h)

-- checks 1 and 2 alone: both pass, or the one that refuses does so whatever comes behind them
module _ (n m : ℕ) where
  abbrev passes : Answer → Bool
  passes a = if_accepted a true false

  pub checked-sizes : None ≡ checked n m None → (n ≡ 4096) × (m ≡ 4080)
  checked-sizes w = go (eqb n 4096) refl (eqb m 4080) refl (ap passes w)
    where
      go :
          (p : Bool)
          → eqb n 4096 ≡ p
          → (q : Bool)
          → eqb m 4080 ≡ q
          → true ≡ passes (pick p (pick q None (Some (WrongBufferLength m))) (Some (WrongPageLength n)))
          → (n ≡ 4096) × (m ≡ 4080)
      go true e true f v = (eqb-true _ _ e, eqb-true _ _ f)
      go true e false f v = absurd (never_both refl (sym v))
      go false e q f v = absurd (never_both refl (sym v))

  pub checked-refused : (x : Answer) (r : Refusal) → Some r ≡ checked n m None → Some r ≡ checked n m x
  checked-refused x r = go (eqb n 4096) (eqb m 4080)
    where
      go :
          (p q : Bool)
          → Some r ≡ pick p (pick q None (Some (WrongBufferLength m))) (Some (WrongPageLength n))
          → Some r ≡ pick p (pick q x (Some (WrongBufferLength m))) (Some (WrongPageLength n))
      go true true v = absurd (never_both refl (ap passes v))
      go true false v = v
      go false q v = v

-- check 14
module _ (s : ℕ) (new : List ℕ) where
  tested : (b : Bool) → (ltb s 8 && eqb (length new) 512) ≡ b → pick b None (Some (BadReplacement s)) ≡ sector_answer s new
  tested b w = ap (λ (c : Bool). pick c None (Some (BadReplacement s))) (sym w)

  pub sector-above : 8 ≤ s → Some (BadReplacement s) ≡ sector_answer s new
  sector-above q = tested false (rw (le-ltb s 8 q))

  pub sector-resized : s < 8 → (length new ≡ 512 → ⊥) → Some (BadReplacement s) ≡ sector_answer s new
  sector-resized q d = tested false (rw (lt-ltb s 8 q, ne_eqb (length new) 512 d))

  pub sector-taken : s < 8 → length new ≡ 512 → None ≡ sector_answer s new
  sector-taken q d = tested true (rw (lt-ltb s 8 q, eq-eqb (length new) 512 d))

-- the parts of the contracts
module _ (number : ℕ) (stored buffer : List ℕ) (a : Answer) (e : a ≡ checked (length stored) (length buffer) None) where
  pub scan-answer : ok_if a (fits_of number stored) ≡ page_scan_of number stored (length buffer)
  unfolding page_scan_of
  scan-answer = ap (λ (x : Answer). ok_if x (fits_of number stored)) e

  pub scan-buffer : if_accepted a (bytes_of number stored) buffer ≡ scanned number stored buffer
  unfolding scanned
  scan-buffer = ap (λ (x : Answer). if_accepted x (bytes_of number stored) buffer) e

module _
    (number s : ℕ)
    (new stored shifted : List ℕ)
    (fits : List Fit)
    (a : Answer)
    (e : a ≡ replace_answer s new (length stored) (length shifted))
  where
    pub replace-answer : ok_if a (set fits s (fit_of (offset_of number s) (data_of s new))) ≡ replaced number s new (length stored) (length shifted) fits
    unfolding replaced
    replace-answer = ap (λ (x : Answer). ok_if x (set fits s (fit_of (offset_of number s) (data_of s new)))) e

    pub replace-stored : if_accepted a (over stored (s * 512) new) stored ≡ stored_after s new stored (length shifted)
    unfolding stored_after
    replace-stored = ap (λ (x : Answer). if_accepted x (over stored (s * 512) new) stored) e

    pub replace-shifted : if_accepted a (over shifted (s * 512) (sector_of (offset_of number s) (data_of s new))) shifted ≡ shifted_after number s new (length stored) shifted
    unfolding shifted_after
    replace-shifted = ap (λ (x : Answer). if_accepted x (over shifted (s * 512) (sector_of (offset_of number s) (data_of s new))) shifted) e

    -- what `replace_sector` promises
    pub replace-renews :
        Renews number s new stored (if_accepted a (over stored (s * 512) new) stored) shifted (if_accepted a (over shifted (s * 512) (sector_of (offset_of number s) (data_of s new))) shifted) fits
        (ok_if a (set fits s (fit_of (offset_of number s) (data_of s new))))
    replace-renews = (replace-answer, replace-stored, replace-shifted)
