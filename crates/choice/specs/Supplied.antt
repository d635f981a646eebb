-- Document 01, "Choosing bv", on a supplied bv. Assumes nothing.
use Rattle.std.specs.Prelude.{ℕ, ◌-◌, Bool, ◌&&◌, Option, Some, None, Result, Ok, Err, List, eqb, leb, length}
use Rattle.lists.specs.Cases.{pick}
use Rattle.lists.specs.Bytes.{plain_of}
use Rattle.lists.specs.Counts.{count}
use Rattle.answers.specs.Tables.{empty, with_if}
use Rattle.answers.specs.Settings.{keystream}
use Rattle.answers.specs.Trust.{Grounds}
use Rattle.answers.specs.declared.kinds.Refusal.TheVariants.{KeystreamUnverified}
use Rattle.answers.specs.declared.trust.Source.TheVariants as source
use Rattle.answers.specs.declared.trust.Confidence.{Confidence}
use Rattle.answers.specs.declared.trust.Confidence.TheVariants as confidence
use Rattle.answers.specs.declared.trust.Evidence.TheVariants as evidence
use Rattle.answers.specs.declared.notices.WarningKind.{WarningKind}
use Rattle.answers.specs.declared.notices.WarningKind.TheVariants as warning
use Rattle.answers.specs.declared.settings.Options.{Options}
use Rattle.slots.specs.Slots.{row_count_matches}
use Rattle.votes.specs.Votes.{ballots}
use Rattle.choice.specs.declared.Choice.{Choice}
use Rattle.choice.specs.declared.Refused.{Refused}
use Rattle.choice.specs.Rules.{refusal, unless_refused, asked_answer}

-- "source supplied, .. no zero mass"
abbrev pub supplied_with : ℕ → Confidence → Grounds → Option WarningKind → Choice
supplied_with bv k g w =
    record { bv = bv; source = source.Supplied; confidence = k; grounds = g; others = empty; warned = w }

-- "Exact-sector evidence needs two votes, and calibrates if there is no dissent. The row-count test, without the nonzero guard, verifies and
-- stands first. Neither calibrated nor verified: 6, or under KEYSTREAM unverified, with a warning": by votes, dissent and the row-count test
unfoldable pub supplied_by : ℕ → Bool → ℕ → ℕ → ℕ → Bool → Result Choice Refused
supplied_by number lenient bv votes dissent matches =
    let grounds : Grounds = with_if (leb 2 votes) (with_if matches empty evidence.TrailerRowCount) (evidence.ExactSectors votes dissent) in
    pick matches (Ok (supplied_with bv confidence.Verified grounds None))
    (pick (leb 2 votes && eqb dissent 0) (Ok (supplied_with bv confidence.Calibrated grounds None))
    (pick lenient
    (Ok (supplied_with bv confidence.Unverified grounds (Some (warning.UnverifiedKeystream bv))))
    (Err (refusal (KeystreamUnverified number bv)))))

-- for the shifted bytes, of which there must be 4,080, and a search limit in its range, as in `choice_of`
unfoldable pub supplied_of : ℕ → ℕ → List ℕ → ℕ → Options → Result Choice Refused
supplied_of number bv shifted n o =
    let votes : ℕ = count bv (ballots shifted) in
    let matches : Bool = row_count_matches o.search_limit (plain_of bv shifted) n o.min_trailer_count in
    unless_refused (asked_answer (length shifted) o.search_limit)
    (supplied_by number (keystream o) bv votes (length (ballots shifted) - votes) matches)
