-- Document 01, "Choosing bv": the four rules, in order, over an assessment `a`. Assumes nothing.
use Rattle.std.specs.Prelude.{ℕ, ◌-◌, Bool, ◌&&◌, Option, Some, None, Result, Ok, Err, List, eqb, ltb, leb, length}
use Rattle.lists.specs.Cases.{pick}
use Rattle.answers.specs.Tables.{empty, with_item, with_if}
use Rattle.answers.specs.Answers.{Answer, Bvs}
use Rattle.answers.specs.Settings.{keystream, limit_fits}
use Rattle.answers.specs.Trust.{Grounds}
use Rattle.answers.specs.declared.kinds.Refusal.{Refusal}
use Rattle.answers.specs.declared.kinds.Refusal.TheVariants.{WrongBufferLength, AmbiguousCalibration, KeystreamUnverified, LimitOutOfRange}
use Rattle.answers.specs.declared.trust.Source.{Source}
use Rattle.answers.specs.declared.trust.Source.TheVariants as source
use Rattle.answers.specs.declared.trust.Confidence.{Confidence}
use Rattle.answers.specs.declared.trust.Confidence.TheVariants as confidence
use Rattle.answers.specs.declared.trust.Evidence.TheVariants as evidence
use Rattle.answers.specs.declared.notices.WarningKind.{WarningKind}
use Rattle.answers.specs.declared.notices.WarningKind.TheVariants as warning
use Rattle.answers.specs.declared.settings.Options.{Options}
use Rattle.votes.specs.Votes.{assessment_of}
use Rattle.votes.specs.declared.Candidate.{Candidate}
use Rattle.votes.specs.declared.Assessment.{Assessment}
use Rattle.groups.specs.declared.Group.TheVariants.{Verified, Voted, Only, Others, Rivals, Contest, Supported}
use Rattle.choice.specs.declared.Choice.{Choice}
use Rattle.choice.specs.declared.Refused.{Refused}
use Rattle.groups.specs.Groups.{first_of, members, group, highest_of, most_of, bvs_of}

-- "Evidence in order: row count; exact sectors (votes, dissent) if it has a vote; anchor; zero mass (count, lead over the best other
-- candidate, never below 0)"
unfoldable pub grounds_of : Assessment → Candidate → Grounds
grounds_of a c =
    let rows : Grounds = with_if c.verified empty evidence.TrailerRowCount in
    let exact : Grounds = with_if (ltb 0 c.votes) rows (evidence.ExactSectors c.votes (a.total - c.votes)) in
    let anchor : Grounds = with_if c.anchored exact evidence.BlockAnchor in
    with_item anchor (evidence.ZeroMass c.zeros (c.zeros - most_of (group (Others c.bv) a)))

-- a candidate is taken; `others` are those that it was preferred to
unfoldable pub taken_of : Assessment → Candidate → Source → Confidence → Option WarningKind → Bvs → Choice
taken_of a c s k w others =
    record { bv = c.bv; source = s; confidence = k; grounds = grounds_of a c; others = others; warned = w }

-- a refusal beside which no candidates stand
abbrev pub refusal : Refusal → Refused
refusal x = record { refusal = x; candidates = empty }

-- the answer that a choice, or a decoding, gives
abbrev pub refused_answer : {A : Type 0} → Result A Refused → Answer
refused_answer (Ok x) = None
refused_answer (Err e) = Some e.refusal

-- r, unless a check before it refuses
abbrev pub unless_refused : {A : Type 0} → Answer → Result A Refused → Result A Refused
unless_refused None r = r
unless_refused (Some x) r = Err (refusal x)

-- "Ambiguous and unverified refuse, unless KEYSTREAM is set; then histogram, unverified, with a warning. From an ambiguous group it takes
-- the greatest"
unfoldable pub ambiguous_of : ℕ → Bool → Assessment → List Candidate → Result Choice Refused
ambiguous_of number lenient a g =
    pick lenient
    (Ok
    (taken_of a (highest_of g) source.Histogram confidence.Unverified (Some (warning.AmbiguousCalibration (highest_of g).bv))
    (bvs_of (members (Others (highest_of g).bv) g))))
    (Err (record { refusal = AmbiguousCalibration number; candidates = bvs_of g }))

unfoldable pub unverified_of : ℕ → Bool → Assessment → Candidate → Result Choice Refused
unverified_of number lenient a c =
    pick lenient
    (Ok (taken_of a c source.Histogram confidence.Unverified (Some (warning.UnverifiedKeystream c.bv)) empty))
    (Err (refusal (KeystreamUnverified number c.bv)))

-- the top as a candidate
abbrev pub top_candidate : Assessment → Candidate
top_candidate a = first_of (group (Only a.top) a)

-- rule 4. "Otherwise top is unverified"
abbrev pub rule_four : ℕ → Bool → Assessment → Result Choice Refused
rule_four number lenient a = unverified_of number lenient a (top_candidate a)

-- rule 3. "One vote in all, for the top, anchored, no other candidate voted or anchored: taken (corroborated, corroborated)"
unfoldable pub is_corroborated : Assessment → Candidate → Bool
is_corroborated a c = eqb a.total 1 && (eqb c.votes 1 && (c.anchored && eqb (length (group (Supported c.bv) a)) 0))

unfoldable pub rule_three : ℕ → Bool → Assessment → Result Choice Refused
rule_three number lenient a =
    pick (is_corroborated a (top_candidate a))
    (Ok (taken_of a (top_candidate a) source.Corroborated confidence.Corroborated None empty))
    (rule_four number lenient a)

-- rule 2. "One voted value with two votes or more: taken (exact sectors, calibrated). Two or more voted values: ambiguous among them"
unfoldable pub is_calibrated : ℕ → List Candidate → Bool
is_calibrated n voted = eqb n 1 && leb 2 (first_of voted).votes

unfoldable pub rule_two : ℕ → Bool → Assessment → Result Choice Refused
rule_two number lenient a =
    let voted : List Candidate = group Voted a in
    pick (leb 2 (length voted)) (ambiguous_of number lenient a voted)
    (pick (is_calibrated (length voted) voted)
    (Ok (taken_of a (first_of voted) source.ExactSectors confidence.Calibrated None empty))
    (rule_three number lenient a))

-- rule 1. "One verified: .. With no rival it is taken (trailer row count, verified); else ambiguous among rivals and it"
unfoldable pub sole_of : ℕ → Bool → Assessment → Candidate → Result Choice Refused
sole_of number lenient a v =
    pick (eqb (length (group (Rivals v.bv a.top) a)) 0)
    (Ok (taken_of a v source.TrailerRowCount confidence.Verified None empty))
    (ambiguous_of number lenient a (group (Contest v.bv a.top) a))

-- "Two or more verified: ambiguous among them"
unfoldable pub rule_one : ℕ → Bool → Assessment → Result Choice Refused
rule_one number lenient a =
    let verified : List Candidate = group Verified a in
    pick (leb 2 (length verified)) (ambiguous_of number lenient a verified)
    (pick (eqb (length verified) 1) (sole_of number lenient a (first_of verified)) (rule_two number lenient a))

-- what is asked of the shifted bytes, of which there must be 4,080, and then of the search limit, which must be in its range
abbrev pub asked_answer : ℕ → ℕ → Answer
asked_answer n lim = pick (eqb n 4080) (pick (limit_fits lim) None (Some (LimitOutOfRange lim))) (Some (WrongBufferLength n))

-- the choice for the shifted bytes, of which there must be 4,080, at a search limit in its range; n is the stored row count. The rules read every
-- candidate: `votes/Eight.at-most-eight`
unfoldable pub choice_of : ℕ → List ℕ → List ℕ → ℕ → Options → Result Choice Refused
choice_of number shifted anchors n o =
    unless_refused (asked_answer (length shifted) o.search_limit)
    (rule_one number (keystream o) (assessment_of o.search_limit shifted anchors n o.min_trailer_count))
