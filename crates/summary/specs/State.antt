-- A stored page beside its summary, and what a list of replacements makes of them. Assumes nothing.
use Rattle.std.specs.Prelude.{ℕ, ◌*◌, ◌<◌, ◌≡◌, true, List, [], ◌∷◌, map, length, get_or, take, drop}
use Rattle.std.specs.Result.{result_unwrap_or}
use Rattle.lists.specs.Counts.{is_in}
use Rattle.sector.specs.Byte.{offset_of}
use Rattle.sector.specs.Fit.{fit_of, sector_of}
use Rattle.sector.specs.Scan.{blank_fit, blank_fits}
use Rattle.sector.specs.declared.fits.Fit.{Fit}
use Rattle.summary.specs.Page.{data_of, part, fits_of, bytes_of, page_scan_of, scanned}
use Rattle.summary.specs.Replace.{replaced, stored_after, shifted_after}

pub record State : Type 0 where
  pub stored : List ℕ
  pub shifted : List ℕ
  pub fits : List Fit

pub record Replacement : Type 0 where
  pub sector : ℕ
  pub new : List ℕ

-- what `scan_page` makes of a page and a lent buffer; where it refuses, eight blanks stand for the fits
abbrev pub at_scan : ℕ → List ℕ → List ℕ → State
at_scan number stored buffer =
    record {
      stored = stored;
      shifted = scanned number stored buffer;
      fits = result_unwrap_or (page_scan_of number stored (length buffer)) blank_fits;
    }

-- what `replace_sector` makes of a state; where it refuses, the fits stay
unfoldable pub after : ℕ → State → Replacement → State
after number t r =
    record {
      stored = stored_after r.sector r.new t.stored (length t.shifted);
      shifted = shifted_after number r.sector r.new (length t.stored) t.shifted;
      fits = result_unwrap_or (replaced number r.sector r.new (length t.stored) (length t.shifted) t.fits) t.fits;
    }

-- one after the other
unfoldable pub after_all : ℕ → State → List Replacement → State
after_all number t [] = t
after_all number t (r ∷ rs) = after_all number (after number t r) rs

-- the page is whole, and the summary beside it is its own
pub record Fresh (number : ℕ) (t : State) : Type 0 where
  pub whole : length t.stored ≡ 4096
  pub bytes : t.shifted ≡ bytes_of number t.stored
  pub kept : t.fits ≡ fits_of number t.stored

-- page, shifted bytes and fits have their lengths, whatever they hold
pub record Whole (t : State) : Type 0 where
  pub page : length t.stored ≡ 4096
  pub bytes : length t.shifted ≡ 4080
  pub eight : length t.fits ≡ 8

-- a replacement that is accepted: checks 1, 2 and 14 pass
pub record Taken (t : State) (r : Replacement) : Type 0 where
  pub whole : length t.stored ≡ 4096
  pub buffer : length t.shifted ≡ 4080
  pub within : r.sector < 8
  pub sized : length r.new ≡ 512

-- the bytes 512 s to 512 s + 511 of a stored page: of sector 7 data and trailer
unfoldable pub sector_at : ℕ → List ℕ → List ℕ
sector_at s stored = take 512 (drop (s * 512) stored)

-- from t to u one sector alone changed: its stored bytes are the new ones, its fit and shifted bytes those of their data, and all else is as it was
pub record OneSector (number : ℕ) (r : Replacement) (t u : State) : Type 0 where
  pub fit-new : get_or u.fits r.sector blank_fit ≡ fit_of (offset_of number r.sector) (data_of r.sector r.new)
  pub shifted-new : part r.sector u.shifted ≡ sector_of (offset_of number r.sector) (data_of r.sector r.new)
  pub stored-new : sector_at r.sector u.stored ≡ r.new
  pub trailer-new : r.sector ≡ 7 → drop 4080 u.stored ≡ drop 496 r.new
  pub fits_kept : (k : ℕ) → (k ≡ r.sector → ⊥) → get_or u.fits k blank_fit ≡ get_or t.fits k blank_fit
  pub shifted-kept : (k : ℕ) → k < 8 → (k ≡ r.sector → ⊥) → part k u.shifted ≡ part k t.shifted
  pub stored-kept : (k : ℕ) → k < 8 → (k ≡ r.sector → ⊥) → sector_at k u.stored ≡ sector_at k t.stored
  pub trailer-kept : r.sector < 7 → drop 4080 u.stored ≡ drop 4080 t.stored
  pub lengths-kept : Whole u

-- a sector of another page as a replacement, and several, in any order
abbrev pub sector_from : List ℕ → ℕ → Replacement
sector_from other s = record { sector = s; new = sector_at s other }

unfoldable pub sectors_from : List ℕ → List ℕ → List Replacement
sectors_from other order = map (sector_from other) order

-- and all eight of them, repeats included
pub record AllEight (other order : List ℕ) : Type 0 where
  pub whole : length other ≡ 4096
  pub every : (s : ℕ) → s < 8 → is_in s order ≡ true
