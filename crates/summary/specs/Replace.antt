-- Document 01, "Summary and replacement", with request #103: a sector is replaced by 512 bytes, sector 7 by its data and the trailer.
-- Assumes nothing.
use Rattle.std.specs.Prelude.{ℕ, ◌*◌, ◌≡◌, ◌&&◌, List, Some, None, Result, eqb, ltb, length, set}
use Rattle.lists.specs.Cases.{pick}
use Rattle.lists.specs.Pieces.{over}
use Rattle.answers.specs.Answers.{Answer}
use Rattle.answers.specs.declared.kinds.Refusal.{Refusal}
use Rattle.answers.specs.declared.kinds.Refusal.TheVariants.{BadReplacement}
use Rattle.sector.specs.Byte.{offset_of}
use Rattle.sector.specs.Fit.{fit_of, sector_of}
use Rattle.sector.specs.declared.fits.Fit.{Fit}
use Rattle.summary.specs.Page.{data_of, checked, if_accepted, ok_if}

-- check 14: one of the eight sectors, and 512 bytes for each
abbrev pub sector_answer : ℕ → List ℕ → Answer
sector_answer s new = pick (ltb s 8 && eqb (length new) 512) None (Some (BadReplacement s))

-- checks 1, 2, 14, for a page of n bytes and a buffer of m
abbrev pub replace_answer : ℕ → List ℕ → ℕ → ℕ → Answer
replace_answer s new n m = checked n m (sector_answer s new)

-- x where the replacement is accepted, y where it is refused
abbrev pub if_replaced : {A : Type 0} → ℕ → List ℕ → ℕ → ℕ → A → A → A
if_replaced s new n m x y = if_accepted (replace_answer s new n m) x y

-- the fits with that of sector s made of the new data
unfoldable pub replaced : ℕ → ℕ → List ℕ → ℕ → ℕ → List Fit → Result (List Fit) Refusal
replaced number s new n m fits = ok_if (replace_answer s new n m) (set fits s (fit_of (offset_of number s) (data_of s new)))

-- the stored page afterwards: the new bytes in sector s, and so in sector 7 the trailer as it comes
unfoldable pub stored_after : ℕ → List ℕ → List ℕ → ℕ → List ℕ
stored_after s new stored m = if_replaced s new (length stored) m (over stored (s * 512) new) stored

-- the shifted bytes afterwards: in sector s those of the new data
unfoldable pub shifted_after : ℕ → ℕ → List ℕ → ℕ → List ℕ → List ℕ
shifted_after number s new n shifted =
    if_replaced s new n (length shifted) (over shifted (s * 512) (sector_of (offset_of number s) (data_of s new))) shifted

-- the promise of `replace_sector`: its result, and what the lent page and the lent shifted bytes hold afterwards
abbrev pub Renews : ℕ → ℕ → List ℕ → List ℕ → List ℕ → List ℕ → List ℕ → List Fit → Result (List Fit) Refusal → Type 0
Renews number s new stored stored' shifted shifted' fits r =
    (r ≡ replaced number s new (length stored) (length shifted) fits)
    × (stored' ≡ stored_after s new stored (length shifted))
    × (shifted' ≡ shifted_after number s new (length stored) shifted)
