-- What is taken is a candidate: where a choice is accepted, what holds of every candidate holds of the one taken. Assumes nothing.
use Prim.Native.Nat.{ℕ, zero, suc, ◌≤◌, ◌<◌}
use mathlib.Core.Path.{◌≡◌, refl, sym, ap, ◌∙◌, subst}
use mathlib.Core.Bool.{Bool, true, false}
use mathlib.Core.List.{List, [], ◌∷◌, ◌++◌}
use native.Mathlib.Nat.{not-suc-le-zero}
use native.Mathlib.Omega.{arith}
use borrow.Author.Tests.{eqb-true, eq-eqb, leb-true}
use lib.Dec.{eqb, leb}
use lib.ListN.{length}
use Rattle.lists.specs.Bytes.{AllBytes}
use Rattle.lists.specs.Cases.{pick}
use Rattle.lists.specs.Pieces.{among, keep, fold}
use Rattle.lists.proofs.Booleans.{or_yes_right}
use Rattle.lists.proofs.Keep.{keep-among}
use Rattle.lists.proofs.Picks.{pick-case, never_both}
use Rattle.std.specs.Prelude.{Option, Some, None, Result, Ok, Err, IfOk}
use Rattle.answers.specs.Tables.{empty}
use Rattle.answers.specs.Answers.{Answer, Bvs}
use Rattle.answers.specs.Settings.{keystream, limit_fits}
use Rattle.answers.specs.declared.kinds.Refusal.TheVariants.{WrongBufferLength, LimitOutOfRange}
use Rattle.answers.specs.declared.trust.Source.{Source}
use Rattle.answers.specs.declared.trust.Source.TheVariants as source
use Rattle.answers.specs.declared.trust.Confidence.{Confidence}
use Rattle.answers.specs.declared.trust.Confidence.TheVariants as confidence
use Rattle.answers.specs.declared.notices.WarningKind.{WarningKind}
use Rattle.answers.specs.declared.settings.Options.{Options}
use Rattle.votes.specs.Votes.{counts_of, ballots, top_of, candidate_of, candidates_below, assessment_of, listed}
use Rattle.votes.specs.declared.Candidate.{Candidate}
use Rattle.votes.specs.declared.Assessment.{Assessment}
use Rattle.votes.proofs.Eight.{table-whole}
use Rattle.votes.proofs.Meaning.{top_byte, top-candidate}
use Rattle.groups.specs.declared.Group.{Group}
use Rattle.groups.specs.declared.Group.TheVariants.{Verified, Voted, Only, Rivals, Contest}
use Rattle.groups.specs.Groups.{first_of, is_rival, belongs, group, outranks, higher, highest_of}
use Rattle.choice.specs.declared.Choice.{Choice}
use Rattle.choice.specs.declared.Refused.{Refused}
use Rattle.choice.specs.Rules.{grounds_of, taken_of, unless_refused, ambiguous_of, unverified_of, top_candidate, is_corroborated, rule_four, rule_three, is_calibrated, rule_two, sole_of, rule_one, choice_of}
use Rattle.meanings.specs.Values.{stands_for}

-- what holds of every candidate of a list
unfoldable AllOf : (Candidate → Type 0) → List Candidate → Type 0
AllOf P [] = Unit {0}
AllOf P (c ∷ l) = P c × AllOf P l

-- where a choice is accepted, a candidate was taken, with its evidence
record Taking (P : Candidate → Type 0) (a : Assessment) (c : Choice) : Type 0 where
  taken : Candidate
  holds : P taken
  bv : c.bv ≡ taken.bv
  grounds : c.grounds ≡ grounds_of a taken

record Takes (P : Candidate → Type 0) (a : Assessment) (r : Result Choice Refused) : Type 0 where
  made : IfOk r (Taking P a)

module _ (P : Candidate → Type 0) where
  all_append : (l m : List Candidate) → AllOf P l → AllOf P m → AllOf P (l ++ m)
  unfolding AllOf
  all_append [] m a b = b
  all_append (c ∷ l) m a b = (a.0, all_append l m a.1 b)

  all_first : (l : List Candidate) → 0 < length l → AllOf P l → P (first_of l)
  unfolding AllOf
  all_first [] h a = absurd (not-suc-le-zero h)
  all_first (c ∷ l) h a = a.0

  all_keep : (p : Candidate → Bool) (l : List Candidate) → AllOf P l → AllOf P (keep p l)
  unfolding AllOf keep
  all_keep p [] a = a
  all_keep p (c ∷ l) a =
      pick-case (AllOf P) (p c) (c ∷ keep p l) (keep p l) (λ e. (a.0, all_keep p l a.1)) (λ e. all_keep p l a.1)

  all-fold : (b : Candidate) (l : List Candidate) → P b → AllOf P l → P (fold higher b l)
  unfolding AllOf fold higher
  all-fold b [] s a = s
  all-fold b (c ∷ l) s a = all-fold (higher b c) l (pick-case P (outranks c b) c b (λ e. a.0) (λ e. s)) a.1

  all-best : (l : List Candidate) → 0 < length l → AllOf P l → P (highest_of l)
  unfolding highest_of
  all-best l h a = all-fold (first_of l) l (all_first l h a) a

-- what one test keeps, a wider one keeps
wider : (p q : Candidate → Bool) → ((c : Candidate) → p c ≡ true → q c ≡ true) → (l : List Candidate) → length (keep p l) ≤ length (keep q l)
unfolding keep
wider p q w [] = omega arith
wider p q w (c ∷ l) = go (wider p q w l) (p c) refl (q c) refl
  where
    go :
        length (keep p l) ≤ length (keep q l)
        → (a : Bool)
        → p c ≡ a
        → (b : Bool)
        → q c ≡ b
        → length (pick a (c ∷ keep p l) (keep p l)) ≤ length (pick b (c ∷ keep q l) (keep q l))
    go ih true e true f = omega arith
    go ih true e false f = absurd (never_both f (w c e))
    go ih false e true f = omega arith
    go ih false e false f = ih

-- ---- the rules

module _
    (P : Candidate → Type 0)
    (number : ℕ)
    (lenient : Bool)
    (a : Assessment)
    (all : AllOf P (listed a.candidates))
    (top : 0 < length (group (Only a.top) a))
  where
    all-group : (g : Group) → AllOf P (group g a)
    all-group g = all_keep P (belongs g) (listed a.candidates) all

    takes-taken : (c : Candidate) (s : Source) (k : Confidence) (w : Option WarningKind) (g : Bvs) → P c → Takes P a (Ok (taken_of a c s k w g))
    unfolding taken_of
    takes-taken c s k w g h = record { made = record { taken = c; holds = h; bv = refl; grounds = refl } }

    takes-refused : (e : Refused) → Takes P a (Err e)
    takes-refused e = record { made = tt }

    takes-ambiguous : (g : List Candidate) → 0 < length g → AllOf P g → Takes P a (ambiguous_of number lenient a g)
    unfolding ambiguous_of
    takes-ambiguous g h s =
        pick-case (Takes P a) lenient _ _ (λ e. takes-taken (highest_of g) _ _ _ _ (all-best P g h s))
        (λ e. takes-refused _)

    top-holds : P (top_candidate a)
    top-holds = all_first P (group (Only a.top) a) top (all-group (Only a.top))

    takes-four : Takes P a (rule_four number lenient a)
    unfolding unverified_of
    takes-four =
        pick-case (Takes P a) lenient _ _ (λ e. takes-taken (top_candidate a) _ _ _ _ top-holds)
        (λ e. takes-refused _)

    takes-three : Takes P a (rule_three number lenient a)
    unfolding rule_three
    takes-three =
        pick-case (Takes P a) (is_corroborated a (top_candidate a))
        (Ok (taken_of a (top_candidate a) source.Corroborated confidence.Corroborated None empty))
        (rule_four number lenient a)
        (λ e. takes-taken (top_candidate a) _ _ _ _ top-holds)
        (λ e. takes-four)

    calibrated-some : (n : ℕ) (l : List Candidate) → is_calibrated n l ≡ true → 0 < n
    unfolding is_calibrated
    calibrated-some zero l e = absurd (never_both refl e)
    calibrated-some (suc n) l e = omega arith

    takes_two : Takes P a (rule_two number lenient a)
    unfolding rule_two
    takes_two =
        let voted : List Candidate = group Voted a in
        let one : Result Choice Refused = Ok (taken_of a (first_of voted) source.ExactSectors confidence.Calibrated None empty) in
        pick-case (Takes P a) (leb 2 (length voted)) (ambiguous_of number lenient a voted)
        (pick (is_calibrated (length voted) voted) one (rule_three number lenient a))
        (λ e. takes-ambiguous voted (omega (arith, leb-true 2 (length voted) e)) (all-group Voted))
        (λ e.
        pick-case (Takes P a) (is_calibrated (length voted) voted) one (rule_three number lenient a)
        (λ f. takes-taken (first_of voted) _ _ _ _ (all_first P voted (calibrated-some (length voted) voted f) (all-group Voted)))
        (λ f. takes-three))

    takes-sole : (v : Candidate) → P v → Takes P a (sole_of number lenient a v)
    unfolding sole_of
    takes-sole v s =
        let rivals : List Candidate = group (Rivals v.bv a.top) a in
        let contest : List Candidate = group (Contest v.bv a.top) a in
        let more : length rivals ≤ length contest =
        wider (belongs (Rivals v.bv a.top)) (belongs (Contest v.bv a.top))
        (λ c e. or_yes_right (eqb c.bv v.bv) (is_rival v.bv a.top c) e) (listed a.candidates) in
        pick-case (Takes P a) (eqb (length rivals) 0) (Ok (taken_of a v source.TrailerRowCount confidence.Verified None empty))
        (ambiguous_of number lenient a contest) (λ e. takes-taken v _ _ _ _ s)
        (λ e. takes-ambiguous contest (some rivals contest more e) (all-group (Contest v.bv a.top)))
      where
        some : (r c : List Candidate) → length r ≤ length c → eqb (length r) 0 ≡ false → 0 < length c
        some [] c h e = absurd (never_both e refl)
        some (x ∷ r) c h e = omega arith

    takes_one : Takes P a (rule_one number lenient a)
    unfolding rule_one
    takes_one =
        let verified : List Candidate = group Verified a in
        let rest : Result Choice Refused = pick (eqb (length verified) 1) (sole_of number lenient a (first_of verified)) (rule_two number lenient a) in
        pick-case (Takes P a) (leb 2 (length verified)) (ambiguous_of number lenient a verified) rest
        (λ e. takes-ambiguous verified (omega (arith, leb-true 2 (length verified) e)) (all-group Verified))
        (λ e.
        pick-case (Takes P a) (eqb (length verified) 1) (sole_of number lenient a (first_of verified)) (rule_two number lenient a)
        (λ f. takes-sole (first_of verified) (all_first P verified (omega (arith, eqb-true (length verified) 1 f)) (all-group Verified)))
        (λ f. takes_two))

-- ---- the assessment of a page's shifted bytes

-- a candidate for the page: its value is one that stands, and it is told of that value
record Proper (lim : ℕ) (shifted anchors : List ℕ) (n t : ℕ) (c : Candidate) : Type 0 where
  byte : c.bv < 256
  stands : stands_for shifted c.bv ≡ true
  is : c ≡ candidate_of lim shifted anchors n t c.bv

module _ (lim : ℕ) (shifted anchors : List ℕ) (n t : ℕ) where
  abbrev assessment : Assessment
  assessment = assessment_of lim shifted anchors n t

  abbrev P : Candidate → Type 0
  P = Proper lim shifted anchors n t

  stands-below : (bound : ℕ) → bound ≤ 256 → AllOf P (candidates_below lim shifted anchors n t bound)
  unfolding AllOf candidates_below among candidate_of stands_for
  stands-below zero h = tt
  stands-below (suc v) h =
      all_append P (candidates_below lim shifted anchors n t v) _ (stands-below v (omega arith))
      (pick-case (AllOf P) (stands_for shifted v) (candidate_of lim shifted anchors n t v ∷ []) []
      (λ e. (record { byte = omega arith; stands = e; is = refl }, tt)) (λ e. tt))

  -- the top is one of those in the table
  module _ (long : length shifted ≡ 4080) where
    top-bv : (candidate_of lim shifted anchors n t (top_of (counts_of shifted))).bv ≡ top_of (counts_of shifted)
    unfolding candidate_of
    top-bv = refl

    module _ (h : 0 < length shifted) (b : AllBytes shifted) where
      top-found : 0 < length (group (Only assessment.top) assessment)
      unfolding assessment_of candidates_below stands_for
      top-found =
          let v : ℕ = top_of (counts_of shifted) in
          subst (λ (l : List Candidate). 0 < length (keep (belongs (Only v)) l)) (sym (table-whole shifted long lim anchors n t))
          (keep-among (stands_for shifted) (candidate_of lim shifted anchors n t) (belongs (Only v)) 256 v (top_byte (counts_of shifted))
          (top-candidate shifted (counts_of (ballots shifted)) h b) (eq-eqb _ v top-bv))

      takes-ruled : (number : ℕ) (lenient : Bool) → Takes P assessment (rule_one number lenient assessment)
      takes-ruled number lenient =
          takes_one P number lenient assessment (subst (AllOf P) (sym (table-whole shifted long lim anchors n t)) (stands-below 256 (omega arith))) top-found

-- of an accepted choice: a candidate was taken
pub record Chosen (lim : ℕ) (shifted anchors : List ℕ) (n t : ℕ) (c : Choice) : Type 0 where
  pub long : length shifted ≡ 4080
  pub within : limit_fits lim ≡ true
  pub byte : c.bv < 256
  pub stands : stands_for shifted c.bv ≡ true
  pub grounds : c.grounds ≡ grounds_of (assessment_of lim shifted anchors n t) (candidate_of lim shifted anchors n t c.bv)

module _ (number : ℕ) (shifted anchors : List ℕ) (n : ℕ) (o : Options) (b : AllBytes shifted) where
  abbrev t : ℕ
  t = o.min_trailer_count

  abbrev lim : ℕ
  lim = o.search_limit

  abbrev a : Assessment
  a = assessment_of lim shifted anchors n t

  abbrev rule : Result Choice Refused
  rule = rule_one number (keystream o) a

  -- an accepted choice is one by the rules
  record Ruled (r : Result Choice Refused) : Type 0 where
    ruled : (c : Choice) → r ≡ Ok c → (length shifted ≡ 4080) × (limit_fits lim ≡ true) × (r ≡ rule)

  unruled : (e : Refused) → Ruled (Err e)
  unruled e = record { ruled = λ c q. cc }

  ruled-choice : Ruled (choice_of number shifted anchors n o)
  unfolding choice_of
  ruled-choice =
      let Q : Answer → Type 0 = λ x. Ruled (unless_refused x rule) in
      pick-case Q (eqb (length shifted) 4080) (pick (limit_fits lim) None (Some (LimitOutOfRange lim))) (Some (WrongBufferLength (length shifted)))
      (λ e.
      pick-case Q (limit_fits lim) None (Some (LimitOutOfRange lim)) (λ w. record { ruled = λ c q. (eqb-true (length shifted) 4080 e, w, refl) })
      (λ w. unruled _))
      (λ e. unruled _)

  pub chosen-stands : (c : Choice) → choice_of number shifted anchors n o ≡ Ok c → Chosen lim shifted anchors n t c
  chosen-stands c good =
      let r = ruled-choice.ruled c good in
      let long : length shifted ≡ 4080 = r.0 in
      let some : 0 < length shifted = omega arith in
      let k : Taking (Proper lim shifted anchors n t) a c =
      (subst (Takes (Proper lim shifted anchors n t) a) (sym r.2 ∙ good) (takes-ruled lim shifted anchors n t long some b number (keystream o))).made in
      record {
        long = long;
        within = r.1;
        byte = subst (λ (v : ℕ). v < 256) (sym k.bv) k.holds.byte;
        stands = ap (stands_for shifted) k.bv ∙ k.holds.stands;
        grounds =
            k.grounds
            ∙ ap (grounds_of a) k.holds.is
            ∙ ap (λ (v : ℕ). grounds_of a (candidate_of lim shifted anchors n t v)) (sym k.bv);
      }
