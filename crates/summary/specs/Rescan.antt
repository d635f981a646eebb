-- Private: no part of the rules. What `rescan` promises: the sectors first, .., first + n - 1 of a summary scanned anew, all others kept.
-- Assumes nothing.
use Rattle.std.specs.Prelude.{ℕ, zero, suc, ◌+◌, ◌*◌, List, set}
use Rattle.lists.specs.Pieces.{over}
use Rattle.sector.specs.declared.fits.Fit.{Fit}
use Rattle.summary.specs.Page.{fit_at, bytes_at}

unfoldable pub refitted : ℕ → List ℕ → ℕ → List Fit → ℕ → List Fit
refitted number stored first fits zero = fits
refitted number stored first fits (suc n) = set (refitted number stored first fits n) (first + n) (fit_at number stored (first + n))

unfoldable pub reshifted : ℕ → List ℕ → ℕ → List ℕ → ℕ → List ℕ
reshifted number stored first shifted zero = shifted
reshifted number stored first shifted (suc n) = over (reshifted number stored first shifted n) ((first + n) * 512) (bytes_at number stored (first + n))
