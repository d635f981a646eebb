-- Document 01, "Answer numbers": what is decided of a page, in the order 3, 4, choice, 7. `stored` is the stored page, `fits` and `shifted` its summary.
-- The choice refuses a search limit out of range; a decoding does so before it comes here. Assumes nothing.
use Rattle.std.specs.Prelude.{ℕ, Bool, false, not, Option, Some, None, Result, Ok, Err, List, eqb, ltb}
use Rattle.lists.specs.Cases.{pick}
use Rattle.answers.specs.Answers.{Answer, number_of, is_accepted}
use Rattle.answers.specs.Settings.{keystream, integrity}
use Rattle.answers.specs.Tables.{empty, with_item}
use Rattle.answers.specs.Warns.{Warnings, with_warning}
use Rattle.answers.specs.declared.kinds.Refusal.TheVariants.{LowConfidenceKeystream}
use Rattle.answers.specs.declared.trust.Source.TheVariants as source
use Rattle.answers.specs.declared.trust.Confidence.TheVariants as confidence
use Rattle.answers.specs.declared.trust.Evidence.TheVariants as evidence
use Rattle.answers.specs.declared.notices.WarningKind.{WarningKind}
use Rattle.answers.specs.declared.notices.WarningKind.TheVariants as warning
use Rattle.answers.specs.declared.settings.Options.{Options}
use Rattle.sector.specs.declared.fits.Fit.{Fit}
use Rattle.page.specs.Trailer.{row_count_of}
use Rattle.page.specs.Integrity.{integrity_of}
use Rattle.choice.specs.declared.Choice.{Choice}
use Rattle.choice.specs.declared.Refused.{Refused}
use Rattle.choice.specs.Rules.{refusal, unless_refused, choice_of}
use Rattle.choice.specs.Supplied.{supplied_of}
use Rattle.verdict.specs.declared.Decoding.{Decoding}
use Rattle.verdict.specs.Sectors.{entry, refit_of, unallocated_fits, first_weak, sector_warnings}

-- "Unallocated: zeros out, no bv, that one evidence, eight fits of 0, 0, 0, exact"
unfoldable pub unallocated_of : Decoding
unallocated_of =
    record {
      choice =
          record {
            bv = 0;
            source = source.Unallocated;
            confidence = confidence.Unallocated;
            grounds = with_item empty evidence.Unallocated;
            others = empty;
            warned = None;
          };
      fits = unallocated_fits;
      warnings = empty;
    }

-- the warning w, if it is one, behind those before it
abbrev pub warning_noted : ℕ → Option WarningKind → Warnings → Warnings
warning_noted number None ws = ws
warning_noted number (Some w) ws = with_warning ws number w

-- "7, first such sector"; "KEYSTREAM also turns each refusal 7 into a warning"
unfoldable pub sectors_decide : ℕ → Bool → List Fit → Choice → Warnings → Result Decoding Refused
sectors_decide number lenient fits c ws =
    pick lenient (Ok (record { choice = c; fits = fits; warnings = sector_warnings number fits ws 8 }))
    (pick (ltb (first_weak fits) 8)
    (Err
    (refusal
    (LowConfidenceKeystream number (first_weak fits) (entry fits (first_weak fits)).peak (entry fits (first_weak fits)).runner_up)))
    (Ok (record { choice = c; fits = fits; warnings = ws })))

-- choice, then sectors. "Warnings: integrity, choice, sectors ascending"
unfoldable pub settled_of : ℕ → Bool → List Fit → Result Choice Refused → Warnings → Result Decoding Refused
settled_of number lenient fits (Ok c) ws = sectors_decide number lenient fits c (warning_noted number c.warned ws)
settled_of number lenient fits (Err e) ws = Err e

-- "INTEGRITY turns 3 or 4 into one warning; a bad CRC hides a bad trailer": x is what a page's integrity was answered to be
abbrev pub integrity_refuses : Answer → Options → Bool
integrity_refuses x o = pick (is_accepted x) false (not (integrity o))

abbrev pub integrity_warning : Answer → Option WarningKind
integrity_warning x = pick (is_accepted x) None (pick (eqb (number_of x) 3) (Some warning.BadCrc) (Some warning.BadTrailer))

-- what it answers under leniency
abbrev pub integrity_left : Answer → Options → Answer
integrity_left x o = pick (integrity_refuses x o) x None

-- a page that was written, with the stored row count n: integrity, choice, sectors
unfoldable pub verdict_by : ℕ → Answer → ℕ → List Fit → List ℕ → List ℕ → Options → Result Decoding Refused
verdict_by number x n fits shifted anchors o =
    unless_refused (integrity_left x o)
    (settled_of number (keystream o) (refit_of fits shifted) (choice_of number shifted anchors n o) (warning_noted number (integrity_warning x) empty))

unfoldable pub verdict_of : ℕ → List ℕ → List Fit → List ℕ → List ℕ → Options → Result Decoding Refused
verdict_of number stored fits shifted anchors o = verdict_by number (integrity_of number stored) (row_count_of stored) fits shifted anchors o

-- a supplied bv skips 3 and 4
abbrev pub supplied_verdict : ℕ → ℕ → ℕ → List Fit → List ℕ → Options → Result Decoding Refused
supplied_verdict number bv n fits shifted o = settled_of number (keystream o) (refit_of fits shifted) (supplied_of number bv shifted n o) empty
