-- How each rule decides: a law to a case, its premises in the order of the tests. Assumes nothing.
use Prim.Native.Nat.{ℕ, ◌-◌, ◌≤◌, ◌<◌}
use mathlib.Core.Path.{◌≡◌, refl, sym, ap, ◌∙◌}
use mathlib.Core.Bool.{Bool, true, false, ◌&&◌}
use mathlib.Core.List.{List}
use Rattle.std.specs.Prelude.{Some, None, Result, Ok, Err}
use native.Mathlib.Omega.{arith}
use borrow.Author.Tests.{eq-eqb, ne_eqb, le-leb, lt-leb, eqb-true}
use lib.Dec.{eqb, ltb, leb}
use lib.ListN.{length}
use Rattle.lists.specs.Bytes.{plain_of}
use Rattle.lists.specs.Cases.{pick}
use Rattle.lists.specs.Counts.{count}
use Rattle.slots.specs.Slots.{row_count_matches}
use Rattle.answers.specs.Tables.{empty, with_item, with_if}
use Rattle.answers.specs.Settings.{keystream, limit_fits}
use Rattle.answers.specs.Trust.{Grounds}
use Rattle.answers.specs.declared.kinds.Refusal.{Refusal}
use Rattle.answers.specs.declared.kinds.Refusal.TheVariants.{WrongBufferLength, AmbiguousCalibration, KeystreamUnverified, LimitOutOfRange}
use Rattle.answers.specs.declared.trust.Source.TheVariants as source
use Rattle.answers.specs.declared.trust.Confidence.TheVariants as confidence
use Rattle.answers.specs.declared.trust.Evidence.TheVariants as evidence
use Rattle.answers.specs.declared.notices.WarningKind.TheVariants as warning
use Rattle.answers.specs.declared.settings.Options.{Options}
use Rattle.votes.specs.declared.Candidate.{Candidate}
use Rattle.votes.specs.declared.Candidates.{Candidates}
use Rattle.votes.specs.declared.Assessment.{Assessment}
use Rattle.votes.specs.declared.polls.Poll.{Poll}
use Rattle.votes.specs.Votes.{assessment_of, ballots, poll_of, listed}
use Rattle.votes.proofs.Assessments.{assessed-is}
use Rattle.votes.proofs.Ballots.{poll-is}
use Rattle.groups.specs.declared.Group.TheVariants.{Verified, Voted, Only, Others, Rivals, Contest, Supported}
use Rattle.groups.specs.Groups.{first_of, highest_of, most_of, bvs_of, kept_of}
use Rattle.groups.proofs.GroupTable.{kept-is}
use Rattle.choice.specs.declared.Choice.{Choice}
use Rattle.choice.specs.declared.Refused.{Refused}
use Rattle.choice.specs.Rules.{grounds_of, taken_of, refusal, ambiguous_of, unverified_of, top_candidate, rule_four, is_corroborated, rule_three, is_calibrated, rule_two, sole_of, rule_one, asked_answer, choice_of}
use Rattle.choice.specs.Supplied.{supplied_with, supplied_by, supplied_of}

-- ---- the rules

-- under leniency: `t` is what was taken, to which the warning comes
module _ (number : ℕ) (lenient : Bool) (a : Assessment) where
  pub ambiguous-lenient :
      (c : Candidate) (g others : Candidates) (t : Choice)
      → t ≡ taken_of a c source.Histogram confidence.Unverified None empty
      → c ≡ highest_of (listed g)
      → others ≡ kept_of (Others c.bv) g
      → lenient ≡ true
      → Ok
      (record {
        bv = t.bv;
        source = t.source;
        confidence = t.confidence;
        grounds = t.grounds;
        others = bvs_of (listed others);
        warned = Some (warning.AmbiguousCalibration c.bv);
      })
      ≡ ambiguous_of number lenient a (listed g)
  unfolding taken_of ambiguous_of
  ambiguous-lenient c g others t e f k h = rw (e, (kept-is _ _ _ k).list, ← f, h)

  pub unverified-lenient :
      (c : Candidate) (t : Choice)
      → t ≡ taken_of a c source.Histogram confidence.Unverified None empty
      → lenient ≡ true
      → Ok
      (record {
        bv = t.bv;
        source = t.source;
        confidence = t.confidence;
        grounds = t.grounds;
        others = t.others;
        warned = Some (warning.UnverifiedKeystream c.bv);
      })
      ≡ unverified_of number lenient a c
  unfolding taken_of unverified_of
  unverified-lenient c t e h = rw (e, h)

-- `r` is what a rule gives, and what was kept of the candidates is a variable
module _ (number : ℕ) (lenient : Bool) (a : Assessment) (r : Result Choice Refused) where
  pub ambiguous-strict :
      (g : Candidates)
      → r ≡ Err (record { refusal = AmbiguousCalibration number; candidates = bvs_of (listed g) })
      → lenient ≡ false
      → r ≡ ambiguous_of number lenient a (listed g)
  unfolding ambiguous_of
  ambiguous-strict g e h = rw h e

  pub unverified-strict :
      (c : Candidate) → r ≡ Err (refusal (KeystreamUnverified number c.bv)) → lenient ≡ false → r ≡ unverified_of number lenient a c
  unfolding unverified_of
  unverified-strict c e h = rw h e

  -- rule 3
  pub three-taken :
      (c : Candidate)
      → r ≡ Ok (taken_of a c source.Corroborated confidence.Corroborated None empty)
      → c ≡ top_candidate a
      → is_corroborated a c ≡ true
      → r ≡ rule_three number lenient a
  unfolding rule_three
  three-taken c e t h = rw (← t, h) e

  pub three-on : (c : Candidate) → r ≡ rule_four number lenient a → c ≡ top_candidate a → is_corroborated a c ≡ false → r ≡ rule_three number lenient a
  unfolding rule_three
  three-on c e t h = rw (← t, h) (e ∙ rw t refl)

  -- rule 2
  module _ (voted : Candidates) (k : voted ≡ kept_of Voted a.candidates) where
    pub two-several : r ≡ ambiguous_of number lenient a (listed voted) → 2 ≤ voted.len → r ≡ rule_two number lenient a
    unfolding rule_two
    two-several e h = rw (← (kept-is _ _ _ k).number, ← (kept-is _ _ _ k).list, le-leb 2 voted.len h) e

    pub two-taken :
        (c : Candidate)
        → r ≡ Ok (taken_of a c source.ExactSectors confidence.Calibrated None empty)
        → c ≡ first_of (listed voted)
        → voted.len < 2
        → is_calibrated voted.len (listed voted) ≡ true
        → r ≡ rule_two number lenient a
    unfolding rule_two
    two-taken c e f h t = rw (← (kept-is _ _ _ k).number, ← (kept-is _ _ _ k).list, lt-leb 2 voted.len h, t, ← f) e

    pub two-on : r ≡ rule_three number lenient a → voted.len < 2 → is_calibrated voted.len (listed voted) ≡ false → r ≡ rule_two number lenient a
    unfolding rule_two
    two-on e h t = rw (← (kept-is _ _ _ k).number, ← (kept-is _ _ _ k).list, lt-leb 2 voted.len h, t) e

  -- rule 1
  module _ (v : Candidate) (rivals : Candidates) (k : rivals ≡ kept_of (Rivals v.bv a.top) a.candidates) where
    pub sole-alone : r ≡ Ok (taken_of a v source.TrailerRowCount confidence.Verified None empty) → rivals.len ≡ 0 → r ≡ sole_of number lenient a v
    unfolding sole_of
    sole-alone e h = rw (← (kept-is _ _ _ k).number, eq-eqb rivals.len 0 h) e

    pub sole-rivalled :
        (contest : Candidates)
        → r ≡ ambiguous_of number lenient a (listed contest)
        → contest ≡ kept_of (Contest v.bv a.top) a.candidates
        → (rivals.len ≡ 0 → ⊥)
        → r ≡ sole_of number lenient a v
    unfolding sole_of
    sole-rivalled contest e f h = rw (← (kept-is _ _ _ k).number, ne_eqb rivals.len 0 h, ← (kept-is _ _ _ f).list) e

  module _ (verified : Candidates) (k : verified ≡ kept_of Verified a.candidates) where
    pub one-several : r ≡ ambiguous_of number lenient a (listed verified) → 2 ≤ verified.len → r ≡ rule_one number lenient a
    unfolding rule_one
    one-several e h = rw (← (kept-is _ _ _ k).number, ← (kept-is _ _ _ k).list, le-leb 2 verified.len h) e

    pub one-sole :
        (v : Candidate)
        → r ≡ sole_of number lenient a v
        → v ≡ first_of (listed verified)
        → verified.len ≡ 1
        → r ≡ rule_one number lenient a
    unfolding rule_one
    one-sole v e f h = rw (← (kept-is _ _ _ k).number, ← (kept-is _ _ _ k).list, lt-leb 2 verified.len (omega arith), eq-eqb verified.len 1 h, ← f) e

    pub one_on : r ≡ rule_two number lenient a → verified.len < 2 → (verified.len ≡ 1 → ⊥) → r ≡ rule_one number lenient a
    unfolding rule_one
    one_on e h n = rw (← (kept-is _ _ _ k).number, ← (kept-is _ _ _ k).list, lt-leb 2 verified.len h, ne_eqb verified.len 1 n) e

-- a candidate's tests
module _ (a : Assessment) (c : Candidate) where
  pub topmost : (t : Candidates) → c ≡ first_of (listed t) → t ≡ kept_of (Only a.top) a.candidates → c ≡ top_candidate a
  topmost t e k = e ∙ ap first_of (kept-is _ _ _ k).list

  pub corroborated-others :
      (others : Candidates)
      → others ≡ kept_of (Supported c.bv) a.candidates
      → a.total ≡ 1
      → c.votes ≡ 1
      → c.anchored ≡ true
      → eqb others.len 0 ≡ is_corroborated a c
  unfolding is_corroborated
  corroborated-others others k e v h = rw (eq-eqb a.total 1 e, eq-eqb c.votes 1 v, h, (kept-is _ _ _ k).number)

  pub mass-told :
      (others : Candidates) (m : ℕ) (g : Grounds)
      → others ≡ kept_of (Others c.bv) a.candidates
      → m ≡ most_of (listed others)
      → g
      ≡ with_item
      (with_if c.anchored
      (with_if (ltb 0 c.votes) (with_if c.verified empty evidence.TrailerRowCount) (evidence.ExactSectors c.votes (a.total - c.votes)))
      evidence.BlockAnchor)
      (evidence.ZeroMass c.zeros (c.zeros - m))
      → g ≡ grounds_of a c
  unfolding grounds_of
  mass-told others m g k e f = rw (← (kept-is _ _ _ k).list, ← e) f

-- what each rule goes by
pub ruleset ranking = (ambiguous-strict)

pub ruleset confirming = (unverified-strict)

pub ruleset third = (three-taken, three-on)

pub ruleset second = (two-several, two-taken, two-on)

pub ruleset soling = (sole-alone, sole-rivalled)

pub ruleset primary = (one-several, one-sole, one_on)

pub ruleset corroborating = (corroborated-others)

pub ruleset telling = (mass-told)

-- what is asked
module _ (n lim : ℕ) where
  pub asked-length : (n ≡ 4080 → ⊥) → Some (WrongBufferLength n) ≡ asked_answer n lim
  asked-length h = rw (ne_eqb n 4080 h)

  pub asked-limit : n ≡ 4080 → limit_fits lim ≡ false → Some (LimitOutOfRange lim) ≡ asked_answer n lim
  asked-limit h f = rw (eq-eqb n 4080 h, f)

  pub asked-right : n ≡ 4080 → limit_fits lim ≡ true → None ≡ asked_answer n lim
  asked-right h f = rw (eq-eqb n 4080 h, f)

  -- nothing refuses
  pub asked-long : None ≡ asked_answer n lim → n ≡ 4080
  asked-long = go (eqb n 4080) refl
    where
      go : (b : Bool) → eqb n 4080 ≡ b → None ≡ pick b (pick (limit_fits lim) None (Some (LimitOutOfRange lim))) (Some (WrongBufferLength n)) → n ≡ 4080
      go true e w = eqb-true _ _ e
      go false e w = absurd cc

-- the choice
module _ (number : ℕ) (xs anchors : List ℕ) (n : ℕ) (o : Options) where
  pub choice-is :
      None ≡ asked_answer (length xs) o.search_limit
      → choice_of number xs anchors n o
      ≡ rule_one number (keystream o) (assessment_of o.search_limit xs anchors n o.min_trailer_count)
  unfolding choice_of
  choice-is h = rw (← h)

  pub choice-refused : (x : Refusal) → Some x ≡ asked_answer (length xs) o.search_limit → choice_of number xs anchors n o ≡ Err (refusal x)
  unfolding choice_of
  choice-refused x h = rw (← h)

-- a supplied bv
abbrev pub supplied_grounds : ℕ → ℕ → Bool → Grounds
supplied_grounds votes dissent matches =
    with_if (leb 2 votes) (with_if matches empty evidence.TrailerRowCount) (evidence.ExactSectors votes dissent)

module _ (number : ℕ) (lenient : Bool) (bv votes dissent : ℕ) (matches : Bool) where
  pub supplied-verified :
      matches ≡ true
      → supplied_by number lenient bv votes dissent matches ≡ Ok (supplied_with bv confidence.Verified (supplied_grounds votes dissent matches) None)
  unfolding supplied_by
  supplied-verified h = rw h

  pub supplied-calibrated :
      matches ≡ false
      → (leb 2 votes && eqb dissent 0) ≡ true
      → supplied_by number lenient bv votes dissent matches ≡ Ok (supplied_with bv confidence.Calibrated (supplied_grounds votes dissent matches) None)
  unfolding supplied_by
  supplied-calibrated h k = rw (k, h)

  pub supplied-lenient :
      matches ≡ false
      → (leb 2 votes && eqb dissent 0) ≡ false
      → lenient ≡ true
      → supplied_by number lenient bv votes dissent matches
      ≡ Ok (supplied_with bv confidence.Unverified (supplied_grounds votes dissent matches) (Some (warning.UnverifiedKeystream bv)))
  unfolding supplied_by
  supplied-lenient h k l = rw (k, l, h)

  pub supplied-refused :
      matches ≡ false
      → (leb 2 votes && eqb dissent 0) ≡ false
      → lenient ≡ false
      → supplied_by number lenient bv votes dissent matches ≡ Err (refusal (KeystreamUnverified number bv))
  unfolding supplied_by
  supplied-refused h k l = rw (k, l, h)

module _ (number bv : ℕ) (xs : List ℕ) (n : ℕ) (o : Options) where
  pub supplied_refused : (x : Refusal) → Some x ≡ asked_answer (length xs) o.search_limit → supplied_of number bv xs n o ≡ Err (refusal x)
  unfolding supplied_of
  supplied_refused x h = rw (← h)

  supplied-is :
      None ≡ asked_answer (length xs) o.search_limit
      → supplied_of number bv xs n o
      ≡ supplied_by number (keystream o) bv (count bv (ballots xs)) (length (ballots xs) - count bv (ballots xs))
      (row_count_matches o.search_limit (plain_of bv xs) n o.min_trailer_count)
  unfolding supplied_of
  supplied-is h = rw (← h)

  pub supplied-made :
      (poll : Poll) (dissent : ℕ) (matches lenient : Bool)
      → None ≡ asked_answer (length xs) o.search_limit
      → poll ≡ poll_of xs bv
      → dissent ≡ poll.total - poll.votes
      → matches ≡ row_count_matches o.search_limit (plain_of bv xs) n o.min_trailer_count
      → lenient ≡ keystream o
      → supplied_by number lenient bv poll.votes dissent matches ≡ supplied_of number bv xs n o
  supplied-made poll dissent matches lenient h ep ed em el = rw (el, em, ed, ep, poll-is xs bv (asked-long _ _ h)) (sym (supplied-is h))

pub ruleset asking = (asked-length, asked-limit, asked-right)

pub ruleset choosing = (asked-long, choice-refused, choice-is, assessed-is)

pub ruleset supporting = (supplied-verified, supplied-calibrated, supplied-lenient, supplied-refused)

pub ruleset supplying = (asked-long, supplied_refused, supplied-made)
