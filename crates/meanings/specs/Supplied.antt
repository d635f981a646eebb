-- A SUPPLIED bv: when it is refused, how far it is trusted, and its evidence, in words of the page. Assumes nothing.
use Rattle.std.specs.Prelude.{ℕ, ◌≤◌, ◌≡◌, Bool, true, false, Option, Some, None, Result, Ok, IsOkAnd, IsErrAnd, List, length}
use Rattle.lists.specs.Bytes.{plain_of}
use Rattle.answers.specs.Tables.{empty}
use Rattle.answers.specs.Answers.{number_of}
use Rattle.answers.specs.Settings.{keystream, limit_fits}
use Rattle.answers.specs.declared.kinds.Refusal.{Refusal}
use Rattle.answers.specs.declared.kinds.Refusal.TheVariants.{WrongBufferLength, KeystreamUnverified, LimitOutOfRange}
use Rattle.answers.specs.declared.trust.Source.TheVariants as source
use Rattle.answers.specs.declared.trust.Confidence.{Confidence}
use Rattle.answers.specs.declared.trust.Confidence.TheVariants as confidence
use Rattle.answers.specs.declared.trust.Evidence.{Evidence}
use Rattle.answers.specs.declared.trust.Evidence.TheVariants as evidence
use Rattle.answers.specs.declared.notices.WarningKind.{WarningKind}
use Rattle.answers.specs.declared.notices.WarningKind.TheVariants as warning
use Rattle.answers.specs.declared.settings.Options.{Options}
use Rattle.slots.specs.Slots.{row_count_matches}
use Rattle.choice.specs.declared.Choice.{Choice}
use Rattle.choice.specs.declared.Refused.{Refused}
use Rattle.choice.specs.Rules.{refused_answer}
use Rattle.choice.specs.Supplied.{supplied_of}
use Rattle.meanings.specs.Values.{votes_for, dissent_from}
use Rattle.meanings.specs.Evidence.{EvidenceTold}

-- "Exact-sector evidence needs two votes, and calibrates if there is no dissent"
pub record Calibrates (shifted : List ℕ) (bv : ℕ) : Type 0 where
  pub two : 2 ≤ votes_for shifted bv
  pub agreed : dissent_from shifted bv ≡ 0

module _ (lim bv : ℕ) (shifted : List ℕ) (n t : ℕ) where
  -- "The row-count test, without the nonzero guard"
  abbrev pub passes : Bool
  passes = row_count_matches lim (plain_of bv shifted) n t

  -- "Neither calibrated nor verified"
  pub record Unbacked : Type 0 where
    pub unpassed : passes ≡ false
    pub uncalibrated : Calibrates shifted bv → ⊥

  -- when each piece of evidence holds of a supplied bv: "no zero mass", and no anchor
  unfoldable pub Backs : Evidence → Type 0
  Backs evidence.TrailerRowCount = passes ≡ true
  Backs (evidence.ExactSectors votes dissent) = (2 ≤ votes_for shifted bv) × (votes ≡ votes_for shifted bv) × (dissent ≡ dissent_from shifted bv)
  Backs evidence.BlockAnchor = ⊥
  Backs (evidence.ZeroMass zeros lead) = ⊥
  Backs evidence.Unallocated = ⊥

module _ (number bv : ℕ) (shifted : List ℕ) (n : ℕ) (o : Options) where
  abbrev t : ℕ
  t = o.min_trailer_count

  abbrev lim : ℕ
  lim = o.search_limit

  -- it is taken, so far trusted and with such a warning, and its evidence is all that holds
  pub record TakenAs (k : Confidence) (w : Option WarningKind) (s : Choice) : Type 0 where
    pub value : s.bv ≡ bv
    pub from : s.source ≡ source.Supplied
    pub trusted : s.confidence ≡ k
    pub evidence : EvidenceTold (Backs lim bv shifted n t) s.grounds
    pub unlisted : s.others ≡ empty
    pub warned : s.warned ≡ w

  -- it is refused: nothing stands beside the refusal
  pub record RefusedAs (x : Refusal) (e : Refused) : Type 0 where
    pub answered : e.refusal ≡ x
    pub unlisted : e.candidates ≡ empty

  module _ (r : Result Choice Refused) where
    -- one of these
    pub data SuppliedMeaning : Type 0 where
      verified :
          length shifted ≡ 4080
          → limit_fits lim ≡ true
          → passes lim bv shifted n t ≡ true
          → IsOkAnd r (TakenAs confidence.Verified None)
          → SuppliedMeaning
      calibrated :
          length shifted ≡ 4080
          → limit_fits lim ≡ true
          → passes lim bv shifted n t ≡ false
          → Calibrates shifted bv
          → IsOkAnd r (TakenAs confidence.Calibrated None)
          → SuppliedMeaning
      unverified :
          length shifted ≡ 4080
          → limit_fits lim ≡ true
          → Unbacked lim bv shifted n t
          → keystream o ≡ true
          → IsOkAnd r (TakenAs confidence.Unverified (Some (warning.UnverifiedKeystream bv)))
          → SuppliedMeaning
      refused :
          length shifted ≡ 4080
          → limit_fits lim ≡ true
          → Unbacked lim bv shifted n t
          → keystream o ≡ false
          → IsErrAnd r (RefusedAs (KeystreamUnverified number bv))
          → SuppliedMeaning
      out_of_range : length shifted ≡ 4080 → limit_fits lim ≡ false → IsErrAnd r (RefusedAs (LimitOutOfRange lim)) → SuppliedMeaning
      wrong-length : (length shifted ≡ 4080 → ⊥) → IsErrAnd r (RefusedAs (WrongBufferLength (length shifted))) → SuppliedMeaning

    -- what its confidence and its answer say of the page
    pub record SuppliedSaid : Type 0 where
      pub accepted : number_of (refused_answer r) ≡ 0 → (length shifted ≡ 4080) × (limit_fits lim ≡ true)
      pub verified : (s : Choice) → r ≡ Ok s → s.confidence ≡ confidence.Verified → passes lim bv shifted n t ≡ true
      pub calibrated :
          (s : Choice) → r ≡ Ok s → s.confidence ≡ confidence.Calibrated → (passes lim bv shifted n t ≡ false) × Calibrates shifted bv
      pub unverified : (s : Choice) → r ≡ Ok s → s.confidence ≡ confidence.Unverified → Unbacked lim bv shifted n t × (keystream o ≡ true)
      pub refused : number_of (refused_answer r) ≡ 6 → Unbacked lim bv shifted n t × (keystream o ≡ false)
      pub out_of_range : number_of (refused_answer r) ≡ 20 → (length shifted ≡ 4080) × (limit_fits lim ≡ false)
      pub wrong-length : number_of (refused_answer r) ≡ 2 → length shifted ≡ 4080 → ⊥

    -- what a page makes of it
    pub record SuppliedMade : Type 0 where
      pub verified :
          length shifted ≡ 4080 → limit_fits lim ≡ true → passes lim bv shifted n t ≡ true → IsOkAnd r (TakenAs confidence.Verified None)
      pub calibrated :
          length shifted ≡ 4080
          → limit_fits lim ≡ true
          → passes lim bv shifted n t ≡ false
          → Calibrates shifted bv
          → IsOkAnd r (TakenAs confidence.Calibrated None)
      pub unverified :
          length shifted ≡ 4080
          → limit_fits lim ≡ true
          → Unbacked lim bv shifted n t
          → keystream o ≡ true
          → IsOkAnd r (TakenAs confidence.Unverified (Some (warning.UnverifiedKeystream bv)))
      pub refused :
          length shifted ≡ 4080
          → limit_fits lim ≡ true
          → Unbacked lim bv shifted n t
          → keystream o ≡ false
          → IsErrAnd r (RefusedAs (KeystreamUnverified number bv))
      pub out_of_range : length shifted ≡ 4080 → limit_fits lim ≡ false → IsErrAnd r (RefusedAs (LimitOutOfRange lim))
      pub wrong-length : (length shifted ≡ 4080 → ⊥) → IsErrAnd r (RefusedAs (WrongBufferLength (length shifted)))

pub record SuppliedMeans : Type 0 where
  -- every supplied bv is one of the six; so its marks say what holds of the page, and what holds of the page decides it
  pub every :
      (number bv : ℕ) (shifted : List ℕ) (n : ℕ) (o : Options)
      → SuppliedMeaning number bv shifted n o (supplied_of number bv shifted n o)
  pub said :
      (number bv : ℕ) (shifted : List ℕ) (n : ℕ) (o : Options) → SuppliedSaid number bv shifted n o (supplied_of number bv shifted n o)
  pub made :
      (number bv : ℕ) (shifted : List ℕ) (n : ℕ) (o : Options) → SuppliedMade number bv shifted n o (supplied_of number bv shifted n o)
