-- A written page whose checks pass, read by its own scan: where the choice takes a bv without a warning, it is what is answered. Assumes nothing.
use Prim.Native.Nat.{ℕ, zero, suc, ◌≤◌}
use mathlib.Core.Path.{◌≡◌, refl, ap, ◌∙◌}
use mathlib.Core.Bool.{Bool, true, false, not}
use mathlib.Core.List.{List}
use native.Mathlib.Omega.{arith}
use borrow.Author.Tests.{eq-eqb}
use lib.ListN.{length}
use Rattle.std.specs.Prelude.{Option, None, Result, Ok}
use Rattle.lists.proofs.Least.{least-none}
use Rattle.answers.specs.Settings.{keystream, limit_fits}
use Rattle.answers.specs.Tables.{empty}
use Rattle.answers.specs.Warns.{Warnings}
use Rattle.answers.specs.declared.notices.WarningKind.{WarningKind}
use Rattle.answers.specs.declared.settings.Options.{Options}
use Rattle.sector.specs.Fit.{confident_of}
use Rattle.sector.specs.declared.fits.Fit.{Fit}
use Rattle.page.specs.Trailer.{row_count_of}
use Rattle.page.specs.Integrity.{integrity_of}
use Rattle.summary.specs.Page.{fits_of, bytes_of}
use Rattle.summary.proofs.Sectors.{summary-length}
use Rattle.choice.specs.declared.Choice.{Choice}
use Rattle.choice.specs.declared.Refused.{Refused}
use Rattle.choice.specs.Rules.{choice_of}
use Rattle.verdict.specs.Sectors.{entry, first_weak, sector_warnings}
use Rattle.verdict.specs.Verdict.{warning_noted, sectors_decide, settled_of, verdict_by, verdict_of}
use Rattle.verdict.proofs.DecisionCases.{settled-lenient}
use Rattle.decode.specs.Decode.{entry_answer, entry_checked, decoding_of}
use Rattle.demands.specs.Demand2.{read_page}
use Rattle.demands.specs.Accepted.{GoodPage, Confident}
use Rattle.demands.proofs.Refusals.{accepted-none}
use Rattle.demands.proofs.StoredBytes.{refit-fresh}

-- ---- confident sectors refuse nothing, and give no warning

module _ (number : ℕ) (fits : List Fit) (sure : Confident fits) where
  none-weak : first_weak fits ≡ 8
  unfolding first_weak
  none-weak = least-none (λ s. not (confident_of (entry fits s))) 8 (λ s h. ap not (sure.at s h))

  none-warned : (ws : Warnings) (n : ℕ) → n ≤ 8 → sector_warnings number fits ws n ≡ ws
  unfolding sector_warnings
  none-warned ws zero h = refl
  none-warned ws (suc n) h = rw (sure.at n (omega arith)) (none-warned ws n (omega arith))

  settled-sure :
      (lenient : Bool) (c : Choice) (ws : Warnings)
      → settled_of number lenient fits (Ok c) ws ≡ Ok (record { choice = c; fits = fits; warnings = warning_noted number c.warned ws })
  unfolding settled_of sectors_decide
  settled-sure true c ws =
      ap (λ (w : Warnings). Ok (record { choice = c; fits = fits; warnings = w })) (none-warned (warning_noted number c.warned ws) 8 (omega arith))
  settled-sure false c ws = rw none-weak refl

-- ---- the page

module _ (number : ℕ) (stored anchors : List ℕ) (o : Options) (sound : GoodPage number stored) (within : limit_fits o.search_limit ≡ true) where
  abbrev c : Result Choice Refused
  c = choice_of number (bytes_of number stored) anchors (row_count_of stored) o

  entry-passes : entry_answer (length stored) 4096 (length (bytes_of number stored)) o.search_limit ≡ None
  unfolding entry_answer
  entry-passes =
      rw (eq-eqb (length stored) 4096 sound.whole, eq-eqb (length (bytes_of number stored)) 4080 (summary-length number stored sound.whole), within)

  pub page-settled : read_page number stored anchors o 4096 ≡ settled_of number (keystream o) (fits_of number stored) c empty
  unfolding decoding_of entry_checked verdict_of verdict_by
  page-settled =
      rw (entry-passes, sound.written, accepted-none (integrity_of number stored) sound.intact)
      (ap (λ (f : List Fit). settled_of number (keystream o) f c empty) (refit-fresh number stored sound.whole))

  module _ (x : Choice) (good : c ≡ Ok x) (quiet : x.warned ≡ None) where
    settled-good : read_page number stored anchors o 4096 ≡ settled_of number (keystream o) (fits_of number stored) (Ok x) empty
    settled-good = page-settled ∙ ap (λ (r : Result Choice Refused). settled_of number (keystream o) (fits_of number stored) r empty) good

    noted-none : warning_noted number x.warned empty ≡ empty
    noted-none = ap (λ (w : Option WarningKind). warning_noted number w empty) quiet

    pub page-sure :
        Confident (fits_of number stored)
        → read_page number stored anchors o 4096 ≡ Ok (record { choice = x; fits = fits_of number stored; warnings = empty })
    page-sure sure =
        settled-good
        ∙ settled-sure number (fits_of number stored) sure (keystream o) x empty
        ∙ ap (λ (w : Warnings). Ok (record { choice = x; fits = fits_of number stored; warnings = w })) noted-none

    pub page-lenient :
        keystream o ≡ true
        → read_page number stored anchors o 4096
        ≡ Ok (record { choice = x; fits = fits_of number stored; warnings = sector_warnings number (fits_of number stored) empty 8 })
    page-lenient l =
        settled-good
        ∙ settled-lenient number (keystream o) (fits_of number stored) (Ok x) empty x refl l
        ∙ ap (λ (w : Warnings). Ok (record { choice = x; fits = fits_of number stored; warnings = sector_warnings number (fits_of number stored) w 8 })) noted-none
