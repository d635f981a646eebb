-- WHAT IS ACCEPTED: written pages that are sure to be read, with the bv, the source and the confidence that they get. Assumes nothing.
use Rattle.std.specs.Prelude.{ℕ, ◌+◌, ◌-◌, ◌*◌, ◌%◌, ◌<◌, ◌≡◌, true, false, Result, Ok, List, length}
use Rattle.lists.specs.Bytes.{byte_at}
use Rattle.answers.specs.Answers.{is_accepted}
use Rattle.answers.specs.Settings.{keystream, limit_fits}
use Rattle.answers.specs.Tables.{empty}
use Rattle.answers.specs.Warns.{Warnings}
use Rattle.answers.specs.declared.settings.Options.{Options}
use Rattle.answers.specs.declared.trust.Confidence.{Confidence}
use Rattle.answers.specs.declared.trust.Confidence.TheVariants as confidence
use Rattle.answers.specs.declared.trust.Source.{Source}
use Rattle.answers.specs.declared.trust.Source.TheVariants as source
use Rattle.sector.specs.Byte.{offset_of}
use Rattle.sector.specs.Fit.{confident_of}
use Rattle.sector.specs.declared.fits.Fit.{Fit}
use Rattle.page.specs.Trailer.{row_count_of}
use Rattle.page.specs.Integrity.{is_unallocated, integrity_of}
use Rattle.summary.specs.Page.{sector_end, fits_of, bytes_of}
use Rattle.choice.specs.declared.Refused.{Refused}
use Rattle.meanings.specs.Sources.{SoleVerified}
use Rattle.verdict.specs.declared.Decoding.{Decoding}
use Rattle.verdict.specs.Sectors.{entry, sector_warnings}
use Rattle.demands.specs.Demand2.{read_page}

-- a page that was written, whose CRC is right and whose reserved bytes are zero, where that counts
pub record GoodPage (number : ℕ) (stored : List ℕ) : Type 0 where
  pub whole : length stored ≡ 4096
  pub written : is_unallocated stored ≡ false
  pub intact : is_accepted (integrity_of number stored) ≡ true

-- every sector's fit is confident
pub record Confident (fits : List Fit) : Type 0 where
  pub at : (s : ℕ) → s < 8 → confident_of (entry fits s) ≡ true

-- a page that is accepted: with this bv, this source and this confidence, and these warnings
pub record ReadAs (r : Result Decoding Refused) (bv : ℕ) (s : Source) (k : Confidence) (ws : Warnings) : Type 0 where
  pub read : Decoding
  pub answered : r ≡ Ok read
  pub value : read.choice.bv ≡ bv
  pub from : read.choice.source ≡ s
  pub trusted : read.choice.confidence ≡ k
  pub warned : read.warnings ≡ ws

-- ---- eight exact sectors with one value

-- by the summary: every shifted byte is bv
pub record OneValue (number : ℕ) (stored : List ℕ) (bv : ℕ) : Type 0 where
  pub at : (k : ℕ) → k < 4080 → byte_at (bytes_of number stored) k ≡ bv

-- by the page: every sector was written with bv under some step
pub record Keyed (number : ℕ) (stored : List ℕ) (bv : ℕ) : Type 0 where
  pub byte : bv < 256
  pub step : ℕ → ℕ
  pub small : (s : ℕ) → s < 8 → step s < 256
  pub at : (s i : ℕ) → s < 8 → i < sector_end s - s * 512 → byte_at stored (s * 512 + i) ≡ (bv + offset_of number s + i * step s) % 256

-- ---- the theorems; `out` has 4,096 bytes

pub record Accepts : Type 0 where
  -- the scan finds the bv that such a page was written with
  pub keyed : (number : ℕ) (stored : List ℕ) (bv : ℕ) → length stored ≡ 4096 → Keyed number stored bv → OneValue number stored bv
  -- eight exact sectors with one value, and row count 0: calibrated, whatever the anchors and the options, at every search limit in its range
  pub exact :
      (number : ℕ) (stored anchors : List ℕ) (o : Options) (bv : ℕ)
      → GoodPage number stored
      → limit_fits o.search_limit ≡ true
      → row_count_of stored ≡ 0
      → OneValue number stored bv
      → ReadAs (read_page number stored anchors o 4096) bv source.ExactSectors confidence.Calibrated empty
  -- a verified candidate without a rival, where no other is verified and every sector is confident
  pub verified :
      (number : ℕ) (stored anchors : List ℕ) (o : Options) (bv : ℕ)
      → GoodPage number stored
      → limit_fits o.search_limit ≡ true
      → Confident (fits_of number stored)
      → SoleVerified o.search_limit (bytes_of number stored) anchors (row_count_of stored) o.min_trailer_count bv
      → ReadAs (read_page number stored anchors o 4096) bv source.TrailerRowCount confidence.Verified empty
  -- the same under KEYSTREAM, with a warning for each sector that is not confident
  pub let_through :
      (number : ℕ) (stored anchors : List ℕ) (o : Options) (bv : ℕ)
      → GoodPage number stored
      → limit_fits o.search_limit ≡ true
      → keystream o ≡ true
      → SoleVerified o.search_limit (bytes_of number stored) anchors (row_count_of stored) o.min_trailer_count bv
      → ReadAs (read_page number stored anchors o 4096) bv source.TrailerRowCount confidence.Verified
      (sector_warnings number (fits_of number stored) empty 8)
