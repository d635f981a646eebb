-- No part of the rules: the counts and the votes of a page whose fits tell which sectors are exact, so that those are not looked at. Where the fits tell the
-- truth they are the counts and the votes of the rules: `proofs/Truth`. Assumes nothing.
use Rattle.std.specs.Prelude.{ℕ, ◌+◌, ◌-◌, ◌*◌, ◌<◌, ◌≡◌, Bool, List, eqb, length, get_or, replicate}
use Rattle.lists.specs.Cases.{pick}
use Rattle.lists.specs.Bytes.{byte_at}
use Rattle.lists.specs.Counts.{count, sum, all_same}
use Rattle.lists.specs.Pieces.{each, among}
use Rattle.sector.specs.Scan.{blank_fit}
use Rattle.sector.specs.declared.fits.Fit.{Fit}
use Rattle.summary.specs.Page.{sector_end, part}
use Rattle.census.specs.declared.pages.Tally.{Tally}

-- the fit of sector s tells that it is exact
abbrev pub told_exact : List Fit → ℕ → Bool
told_exact fits s = (get_or fits s blank_fit).exact

-- the fits tell the truth: a sector is told to be exact where its shifted bytes are all equal
pub record Tells (fits : List Fit) (shifted : List ℕ) : Type 0 where
  pub exact : (s : ℕ) → s < 8 → told_exact fits s ≡ all_same (part s shifted)

-- the first shifted byte of sector s: of an exact one that is every byte
abbrev pub first_byte : List ℕ → ℕ → ℕ
first_byte shifted s = byte_at shifted (s * 512)

-- how often v occurs in sector s if that is told to be exact: as often as it has bytes, or never; of any other 0
unfoldable pub exact_count : List Fit → List ℕ → ℕ → ℕ → ℕ
exact_count fits shifted v s = pick (told_exact fits s) (pick (eqb v (first_byte shifted s)) (sector_end s - s * 512) 0) 0

-- and if it is not, by its bytes; of an exact one 0
unfoldable pub other_count : List Fit → List ℕ → ℕ → ℕ → ℕ
other_count fits shifted v s = pick (told_exact fits s) 0 (count v (part s shifted))

-- the count of each value over the page: over its exact sectors and over the others
unfoldable pub told_counts : List Fit → List ℕ → List ℕ
told_counts fits shifted = each (λ v. sum (exact_count fits shifted v) 8 + sum (other_count fits shifted v) 8) 256

-- the votes, in the sectors' order
unfoldable pub told_ballots : List Fit → List ℕ → List ℕ
told_ballots fits shifted = among (told_exact fits) (first_byte shifted) 8

-- shifted bytes that are not 4,080 have no counts and no votes
abbrev pub no_tally : Tally
no_tally = record { counts = replicate 256 0; votes = replicate 256 0; total = 0 }

abbrev pub tally_of : List Fit → List ℕ → Tally
tally_of fits shifted =
    record {
      counts = told_counts fits shifted;
      votes = each (λ v. count v (told_ballots fits shifted)) 256;
      total = length (told_ballots fits shifted);
    }

unfoldable pub tallied : List Fit → List ℕ → Tally
tallied fits shifted = pick (eqb (length shifted) 4080) (tally_of fits shifted) no_tally
