-- The scan of a sector into a lent buffer. A sector of more than 512 bytes, or a buffer of another length, gives a blank. Assumes nothing.
use Rattle.std.specs.Prelude.{ℕ, false, List, length, replicate, ◌==◌, nat_le}
use Rattle.lists.specs.Cases.{pick}
use Rattle.sector.specs.Fit.{shifted_list, modal_at, fit_of, sector_of}
use Rattle.sector.specs.declared.fits.Fit.{Fit}

abbrev pub blank_fit : Fit
blank_fit = record { step = 0; peak = 0; runner_up = 0; exact = false; tied = 0 }

abbrev pub blank_fits : List Fit
blank_fits = replicate 8 blank_fit

-- x for a sector and a buffer that go together, else y
abbrev pub if_scanned : {A : Type 0} → ℕ → ℕ → A → A → A
if_scanned sector buffer x y = pick (nat_le sector 512) (pick (buffer == sector) x y) y

-- the fit of a sector, for a buffer of n bytes
unfoldable pub sector_fit : ℕ → List ℕ → ℕ → Fit
sector_fit offset bytes n = if_scanned (length bytes) n (fit_of offset bytes) blank_fit

-- and what the buffer holds afterwards
unfoldable pub sector_out : ℕ → List ℕ → List ℕ → List ℕ
sector_out offset bytes out = if_scanned (length bytes) (length out) (sector_of offset bytes) out

-- for one step: the modal count, or 0; and the shifted bytes, or the buffer as it was
unfoldable pub sector_modal : ℕ → List ℕ → ℕ → ℕ → ℕ
sector_modal offset bytes step n = if_scanned (length bytes) n (modal_at offset bytes step) 0

unfoldable pub sector_shifted : ℕ → List ℕ → ℕ → List ℕ → List ℕ
sector_shifted offset bytes step out = if_scanned (length bytes) (length out) (shifted_list offset step bytes) out
