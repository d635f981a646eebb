-- The lines of the answers that the rules can give, in any table that has them; and what a refusal has beside its answer. Assumes nothing.
use Prim.Native.Nat.{ℕ}
use mathlib.Core.Path.{◌≡◌, refl, sym, ap, ◌∙◌, subst}
use mathlib.Core.Bool.{Bool, true, false, ◌&&◌}
use mathlib.Core.List.{List, [], ◌∷◌}
use native.Mathlib.Omega.{arith}
use borrow.Author.Tests.{eqb-true}
use lib.Dec.{eqb, leb}
use lib.ListN.{length}
use Rattle.std.specs.Prelude.{Some, None, Result, Ok, Err}
use Rattle.lists.specs.Cases.{pick}
use Rattle.lists.proofs.Picks.{pick-case, never_both}
use Rattle.answers.specs.Answers.{Answer, Bvs, number_of, values_of, is_accepted, refusal_number, refusal_values}
use Rattle.answers.specs.Settings.{keystream, limit_fits}
use Rattle.answers.specs.Tables.{empty}
use Rattle.answers.specs.Warns.{Warnings}
use Rattle.answers.specs.declared.kinds.Refusal.{Refusal}
use Rattle.answers.specs.declared.kinds.Refusal.TheVariants.{WrongPageLength, WrongBufferLength, AmbiguousCalibration, KeystreamUnverified, LimitOutOfRange}
use Rattle.answers.specs.declared.settings.Options.{Options}
use Rattle.sector.specs.declared.fits.Fit.{Fit}
use Rattle.votes.specs.Votes.{counts_of, top_of, assessment_of}
use Rattle.votes.specs.declared.Candidate.{Candidate}
use Rattle.votes.specs.declared.Assessment.{Assessment}
use Rattle.groups.specs.declared.Group.{Group}
use Rattle.groups.specs.declared.Group.TheVariants.{Verified, Voted, Rivals, Contest}
use Rattle.groups.specs.Groups.{first_of, group, bvs_of}
use Rattle.choice.specs.declared.Choice.{Choice}
use Rattle.choice.specs.declared.Refused.{Refused}
use Rattle.choice.specs.Rules.{refusal, unless_refused, asked_answer, refused_answer, ambiguous_of, unverified_of, top_candidate, is_corroborated, rule_four, rule_three, is_calibrated, rule_two, sole_of, rule_one, choice_of}
use Rattle.choice.specs.Supplied.{supplied_by, supplied_of}
use Rattle.verdict.specs.declared.Decoding.{Decoding}
use Rattle.verdict.specs.Verdict.{unallocated_of, settled_of}
use Rattle.decode.specs.Decode.{entry_checked}
use Rattle.demands.specs.Told.{Line, values_at, weak_values, first_wrong}
use Rattle.demands.specs.Demand1.{Ascending, NothingTaken}
use Rattle.demands.proofs.DecodingCases.{settled_case, checked-case}
use Rattle.demands.proofs.TopCandidate.{top-bv}
use Rattle.demands.proofs.CandidatesAscend.{group-ascends}

-- no candidates, in ascending order
none-ascend : Ascending empty
none-ascend = record { held = λ i q. absurd (omega arith); rising = λ i j q p. absurd (omega arith) }

-- a refusal with no candidates beside it has nothing
pub nothing-taken : {A : Type 0} (x : Refusal) → NothingTaken {A = A} (Err (refusal x))
nothing-taken x = record { blank = refl; candidates = none-ascend; group = λ n. refl }

-- a table has this line, and no other with its number
abbrev pub Has : List Line → ℕ → List ℕ → Type 0
Has lines n values = values_at n lines ≡ values ∷ []

-- the answer of a choice or of a decoding stands in a table
pub record Gives {A : Type 0} (lines : List Line) (r : Result A Refused) : Type 0 where
  pub is : values_at (number_of (refused_answer r)) lines ≡ values_of (refused_answer r) ∷ []
  pub quiet : is_accepted (refused_answer r) ≡ false → NothingTaken r

module _ {A : Type 0} (lines : List Line) where
  pub gives-taken : (x : A) → Has lines 0 [] → Gives {A = A} lines (Ok x)
  gives-taken x h = record { is = h; quiet = λ e. absurd (never_both e refl) }

  pub gives-refusal : (x : Refusal) → Has lines (refusal_number x) (refusal_values x) → Gives {A = A} lines (Err (refusal x))
  gives-refusal x h = record { is = h; quiet = λ e. nothing-taken x }

  gives-between :
      (number : ℕ) (g : Bvs)
      → Has lines 5 (number ∷ [])
      → Ascending g
      → Gives {A = A} lines (Err (record { refusal = AmbiguousCalibration number; candidates = g }))
  gives-between number g h a = record { is = h; quiet = λ e. record { blank = refl; candidates = a; group = λ n. absurd (n refl) } }

-- ---- choices

-- what holds of each outcome of the checks before the rules
asked-case :
    (P : Result Choice Refused → Type 0) (n lim : ℕ) (r : Result Choice Refused)
    → (eqb n 4080 ≡ true → limit_fits lim ≡ true → P r)
    → (limit_fits lim ≡ false → P (Err (refusal (LimitOutOfRange lim))))
    → (eqb n 4080 ≡ false → P (Err (refusal (WrongBufferLength n))))
    → P (unless_refused (asked_answer n lim) r)
asked-case P n lim r within limit wrong =
    let Q : Answer → Type 0 = λ x. P (unless_refused x r) in
    let limited : Answer = pick (limit_fits lim) None (Some (LimitOutOfRange lim)) in
    pick-case Q (eqb n 4080) limited (Some (WrongBufferLength n))
    (λ e. pick-case Q (limit_fits lim) None (Some (LimitOutOfRange lim)) (λ w. within e w) (λ w. limit w)) wrong

module _
    (lines : List Line)
    (number : ℕ)
    (lenient : Bool)
    (a : Assessment)
    (ascend : (g : Group) → Ascending (bvs_of (group g a)))
    (zero : Has lines 0 [])
    (five : Has lines 5 (number ∷ []))
  where
    abbrev Chooses : Result Choice Refused → Type 0
    Chooses r = Gives lines r

    chooses-taken : (c : Choice) → Chooses (Ok c)
    chooses-taken c = gives-taken lines c zero

    on-ambiguous : (g : Group) → Chooses (ambiguous_of number lenient a (group g a))
    unfolding ambiguous_of
    on-ambiguous g = pick-case Chooses lenient _ _ (λ e. chooses-taken _) (λ e. gives-between lines number _ five (ascend g))

    on-sole : (v : Candidate) → Chooses (sole_of number lenient a v)
    unfolding sole_of
    on-sole v =
        pick-case Chooses (eqb (length (group (Rivals v.bv a.top) a)) 0) _ (ambiguous_of number lenient a (group (Contest v.bv a.top) a))
        (λ e. chooses-taken _) (λ e. on-ambiguous (Contest v.bv a.top))

    module _ (six : Has lines 6 (number ∷ (top_candidate a).bv ∷ [])) where
      on-four : Chooses (rule_four number lenient a)
      unfolding unverified_of
      on-four =
          pick-case Chooses lenient _ _ (λ e. chooses-taken _)
          (λ e. gives-refusal lines (KeystreamUnverified number (top_candidate a).bv) six)

      on-three : Chooses (rule_three number lenient a)
      unfolding rule_three
      on-three =
          pick-case Chooses (is_corroborated a (top_candidate a)) _ (rule_four number lenient a) (λ e. chooses-taken _) (λ e. on-four)

      on-two : Chooses (rule_two number lenient a)
      unfolding rule_two
      on-two =
          let voted : List Candidate = group Voted a in
          pick-case Chooses (leb 2 (length voted)) (ambiguous_of number lenient a voted) _ (λ e. on-ambiguous Voted)
          (λ e.
          pick-case Chooses (is_calibrated (length voted) voted) _ (rule_three number lenient a) (λ f. chooses-taken _) (λ f. on-three))

      on_one : Chooses (rule_one number lenient a)
      unfolding rule_one
      on_one =
          let verified : List Candidate = group Verified a in
          let rest : Result Choice Refused =
          pick (eqb (length verified) 1) (sole_of number lenient a (first_of verified)) (rule_two number lenient a) in
          pick-case Chooses (leb 2 (length verified)) (ambiguous_of number lenient a verified) rest (λ e. on-ambiguous Verified)
          (λ e.
          pick-case Chooses (eqb (length verified) 1) (sole_of number lenient a (first_of verified)) (rule_two number lenient a)
          (λ f. on-sole (first_of verified)) (λ f. on-two))

module _ (lines : List Line) (number : ℕ) (shifted anchors : List ℕ) (n : ℕ) (o : Options) where
  pub choice-gives :
      Has lines 0 []
      → (eqb (length shifted) 4080 ≡ false → Has lines 2 (length shifted ∷ []))
      → Has lines 5 (number ∷ [])
      → Has lines 6 (number ∷ top_of (counts_of shifted) ∷ [])
      → (limit_fits o.search_limit ≡ false → Has lines 20 (o.search_limit ∷ []))
      → Gives lines (choice_of number shifted anchors n o)
  unfolding choice_of
  choice-gives zero two five six twenty =
      let lim : ℕ = o.search_limit in
      let a : Assessment = assessment_of lim shifted anchors n o.min_trailer_count in
      let P : Result Choice Refused → Type 0 = λ r. Gives lines r in
      asked-case P (length shifted) lim (rule_one number (keystream o) a)
      (λ e w.
      let long : length shifted ≡ 4080 = eqb-true (length shifted) 4080 e in
      let top : (top_candidate a).bv ≡ top_of (counts_of shifted) = top-bv lim shifted anchors n o.min_trailer_count long in
      on_one lines number (keystream o) a (λ g. group-ascends lim shifted anchors n o.min_trailer_count g long) zero five
      (six ∙ ap (λ (v : ℕ). (number ∷ v ∷ []) ∷ []) (sym top)))
      (λ w. gives-refusal lines (LimitOutOfRange lim) (twenty w)) (λ e. gives-refusal lines (WrongBufferLength (length shifted)) (two e))

module _ (lines : List Line) (number bv : ℕ) (zero : Has lines 0 []) (six : Has lines 6 (number ∷ bv ∷ [])) where
  abbrev Supplies : Result Choice Refused → Type 0
  Supplies r = Gives lines r

  on-supplied : (lenient : Bool) (votes dissent : ℕ) (matches : Bool) → Supplies (supplied_by number lenient bv votes dissent matches)
  unfolding supplied_by
  on-supplied lenient votes dissent matches =
      pick-case Supplies matches _ _ (λ e. gives-taken lines _ zero)
      (λ e.
      pick-case Supplies (leb 2 votes && eqb dissent 0) _ _ (λ f. gives-taken lines _ zero)
      (λ f.
      pick-case Supplies lenient _ _ (λ g. gives-taken lines _ zero) (λ g. gives-refusal lines (KeystreamUnverified number bv) six)))

  pub supplied-gives :
      (shifted : List ℕ) (n : ℕ) (o : Options)
      → (eqb (length shifted) 4080 ≡ false → Has lines 2 (length shifted ∷ []))
      → (limit_fits o.search_limit ≡ false → Has lines 20 (o.search_limit ∷ []))
      → Gives lines (supplied_of number bv shifted n o)
  unfolding supplied_of
  supplied-gives shifted n o two twenty =
      asked-case Supplies (length shifted) o.search_limit _ (λ e w. on-supplied (keystream o) _ _ _)
      (λ w. gives-refusal lines (LimitOutOfRange o.search_limit) (twenty w)) (λ e. gives-refusal lines (WrongBufferLength (length shifted)) (two e))

-- ---- decodings

module _ (lines : List Line) where
  abbrev Decodes : Result Decoding Refused → Type 0
  Decodes r = Gives lines r

  pub gives-settled :
      (number : ℕ) (lenient : Bool) (fits : List Fit) (c : Result Choice Refused) (ws : Warnings)
      → Has lines 0 []
      → Gives lines c
      → Has lines 7 (weak_values number fits)
      → Gives lines (settled_of number lenient fits c ws)
  gives-settled number lenient fits c ws zero h seven =
      settled_case Decodes number fits lenient c ws (λ e k. passed e (subst (λ (r : Result Choice Refused). Gives lines r) k h))
      (gives-refusal lines _ seven) (λ e k all. gives-taken lines _ zero)
    where
      -- a choice's refusal is the decoding's
      passed : (e : Refused) → Gives {A = Choice} lines (Err e) → Decodes (Err e)
      passed e g =
          record {
            is = g.is;
            quiet = λ q. let s = g.quiet q in record { blank = refl; candidates = s.candidates; group = s.group };
          }

  pub gives-checked :
      (stored shifted : List ℕ) (m lim : ℕ) (d : Result Decoding Refused)
      → (length shifted ≡ 4080 → limit_fits lim ≡ true → Gives lines d)
      → Has lines 0 []
      → ((length stored ≡ 4096 → ⊥) → Has lines 1 (length stored ∷ []))
      → ((m ≡ 4096 → length shifted ≡ 4080 → ⊥) → Has lines 2 (first_wrong m (length shifted) ∷ []))
      → (limit_fits lim ≡ false → Has lines 20 (lim ∷ []))
      → Gives lines (entry_checked stored shifted m lim d)
  gives-checked stored shifted m lim d h zero one two twenty =
      checked-case Decodes stored shifted m lim d (λ e. gives-refusal lines (WrongPageLength (length stored)) (one e))
      (λ e. gives-refusal lines (WrongBufferLength (first_wrong m (length shifted))) (two e))
      (λ f. gives-refusal lines (LimitOutOfRange lim) (twenty f))
      (λ l k j f z. gives-taken lines unallocated_of zero) (λ l k j f. h j f)
