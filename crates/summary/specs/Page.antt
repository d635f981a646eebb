-- Document 01, "Summary and replacement": the summary of a page is eight fits and 4,080 shifted bytes. Assumes nothing.
use Rattle.std.specs.Prelude.{ℕ, ◌+◌, ◌-◌, ◌*◌, min, List, Some, None, Result, Ok, Err, eqb, length, take, drop}
use Rattle.lists.specs.Cases.{pick}
use Rattle.lists.specs.Pieces.{each, joined}
use Rattle.answers.specs.Answers.{Answer}
use Rattle.answers.specs.declared.kinds.Refusal.{Refusal}
use Rattle.answers.specs.declared.kinds.Refusal.TheVariants.{WrongPageLength, WrongBufferLength}
use Rattle.sector.specs.Byte.{offset_of}
use Rattle.sector.specs.Fit.{fit_of, sector_of}
use Rattle.sector.specs.declared.fits.Fit.{Fit}

-- sectors 0 to 6 have 512 bytes of data, sector 7 has 496: where the data of sector s end
abbrev pub sector_end : ℕ → ℕ
sector_end s = min (s * 512 + 512) 4080

-- the data among the bytes of sector s, behind which the trailer may stand; and the data of sector s of a page, or of a page's shifted bytes
abbrev pub data_of : ℕ → List ℕ → List ℕ
data_of s bytes = take (sector_end s - s * 512) bytes

unfoldable pub part : ℕ → List ℕ → List ℕ
part s bytes = data_of s (drop (s * 512) bytes)

-- the fit and the shifted bytes of sector s of a stored page
unfoldable pub fit_at : ℕ → List ℕ → ℕ → Fit
fit_at number stored s = fit_of (offset_of number s) (part s stored)

unfoldable pub bytes_at : ℕ → List ℕ → ℕ → List ℕ
bytes_at number stored s = sector_of (offset_of number s) (part s stored)

-- the summary of a page
abbrev pub fits_of : ℕ → List ℕ → List Fit
fits_of number stored = each (fit_at number stored) 8

abbrev pub bytes_of : ℕ → List ℕ → List ℕ
bytes_of number stored = joined (bytes_at number stored) 8

-- checks 1 and 2, for a page of n bytes and a buffer of m; where both pass, the answer a
abbrev pub checked : ℕ → ℕ → Answer → Answer
checked n m a = pick (eqb n 4096) (pick (eqb m 4080) a (Some (WrongBufferLength m))) (Some (WrongPageLength n))

-- x where an answer accepts, y where it refuses
abbrev pub if_accepted : {A : Type 0} → Answer → A → A → A
if_accepted None x y = x
if_accepted (Some r) x y = y

-- x where an answer accepts, and its refusal where it refuses
abbrev pub ok_if : {A : Type 0} → Answer → A → Result A Refusal
ok_if None x = Ok x
ok_if (Some r) x = Err r

-- what a scan gives, for a buffer of m bytes
unfoldable pub page_scan_of : ℕ → List ℕ → ℕ → Result (List Fit) Refusal
page_scan_of number stored m = ok_if (checked (length stored) m None) (fits_of number stored)

-- and what the buffer holds afterwards: a refusal writes nothing
unfoldable pub scanned : ℕ → List ℕ → List ℕ → List ℕ
scanned number stored buffer = if_accepted (checked (length stored) (length buffer) None) (bytes_of number stored) buffer
