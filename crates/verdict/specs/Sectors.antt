-- Document 01: the fits in a decoding's answer, and what becomes of a sector whose step is in doubt. Assumes nothing.
use Rattle.std.specs.Prelude.{ℕ, zero, suc, true, not, List, get_or, replicate}
use Rattle.lists.specs.Cases.{pick}
use Rattle.lists.specs.Counts.{least, all_same}
use Rattle.lists.specs.Pieces.{each}
use Rattle.sector.specs.Fit.{confident_of}
use Rattle.sector.specs.declared.fits.Fit.{Fit}
use Rattle.sector.specs.Scan.{blank_fit}
use Rattle.summary.specs.Page.{part}
use Rattle.answers.specs.Warns.{Warnings, with_warning}
use Rattle.answers.specs.declared.notices.WarningKind.TheVariants as warning

abbrev pub entry : List Fit → ℕ → Fit
entry fits s = get_or fits s blank_fit

-- "exactness and votes from the shifted bytes, steps, peaks and runner-ups from the fits", and tied, as the runner-ups
abbrev pub refit_at : List Fit → List ℕ → ℕ → Fit
refit_at fits shifted s =
    record {
      step = (entry fits s).step;
      peak = (entry fits s).peak;
      runner_up = (entry fits s).runner_up;
      exact = all_same (part s shifted);
      tied = (entry fits s).tied;
    }

unfoldable pub refit_of : List Fit → List ℕ → List Fit
refit_of fits shifted = each (refit_at fits shifted) 8

-- "eight fits of 0, 0, 0, exact", and tied 0
abbrev pub unallocated_fits : List Fit
unallocated_fits = replicate 8 (record { step = 0; peak = 0; runner_up = 0; exact = true; tied = 0 })

-- "first such sector": the first that is not confident; 8 where every one is
unfoldable pub first_weak : List Fit → ℕ
first_weak fits = least (λ s. not (confident_of (entry fits s))) 8

-- "sectors ascending": a warning for each of the first n sectors that is not confident
unfoldable pub sector_warnings : ℕ → List Fit → Warnings → ℕ → Warnings
sector_warnings number fits ws zero = ws
sector_warnings number fits ws (suc n) =
    pick (confident_of (entry fits n))
    (sector_warnings number fits ws n)
    (with_warning (sector_warnings number fits ws n) number (warning.LowConfidenceSector n (entry fits n).peak (entry fits n).runner_up))
