-- Fits that a caller lends as bytes. Assumes nothing.
use Rattle.std.specs.Prelude.{ℕ, ◌+◌, ◌*◌, Bool, not, ◌&&◌, List, eqb, ltb, length, Option, Some, None}
use Rattle.lists.specs.Cases.{pick}
use Rattle.lists.specs.Bytes.{byte_at}
use Rattle.lists.specs.Counts.{how_many}
use Rattle.lists.specs.Pieces.{each}
use Rattle.numbers.specs.Numbers.{two_bytes}
use Rattle.sector.specs.Scan.{blank_fits}
use Rattle.sector.specs.declared.fits.Fit.{Fit}
use Rattle.parts.specs.Parts.{fit_size, fits_size}

-- the fit at a place
unfoldable pub fit_in : List ℕ → ℕ → Fit
fit_in b at =
    record {
      step = byte_at b at;
      peak = two_bytes (byte_at b (at + 1)) (byte_at b (at + 2));
      runner_up = two_bytes (byte_at b (at + 3)) (byte_at b (at + 4));
      exact = not (eqb (byte_at b (at + 5)) 0);
      tied = two_bytes (byte_at b (at + 6)) (byte_at b (at + 7));
    }

unfoldable pub fits_in : List ℕ → List Fit
fits_in b = pick (eqb (length b) fits_size) (each (λ s. fit_in b (fit_size * s)) 8) blank_fits

-- they are lent as 64 bytes, of which none that marks a fit as exact is above 1
abbrev pub is_no_mark : List ℕ → ℕ → Bool
is_no_mark b s = ltb 1 (byte_at b (fit_size * s + 5))

unfoldable pub is_lent : List ℕ → Bool
is_lent b = eqb (length b) fits_size && eqb (how_many (is_no_mark b) 8) 0

-- the fits, where they are lent
abbrev pub fits_lent : List ℕ → Option (List Fit)
fits_lent b = pick (is_lent b) (Some (fits_in b)) None
