-- The outcome of each rule, and so of every choice: each is one of those that specs/Sources names. Assumes nothing.
use Prim.Native.Nat.{ℕ, ◌≤◌, ◌<◌}
use mathlib.Core.Path.{◌≡◌, refl, sym, ap, ap₂, ◌∙◌, subst}
use mathlib.Core.Bool.{Bool, true, false, not, ◌&&◌, ◌||◌}
use mathlib.Core.List.{List}
use native.Mathlib.Decide.{ℕ_discrete}
use native.Mathlib.Omega.{arith}
use borrow.Author.Tests.{eq-eqb, ne_eqb, le-leb, lt-leb, lt-ltb, le-ltb, eqb-true, eqb-false, leb-true, leb-false, ltb-true}
use lib.Dec.{eqb, ltb, leb}
use lib.ListN.{length}
use Rattle.lists.specs.Cases.{pick}
use Rattle.lists.specs.Bytes.{AllBytes, plain_of}
use Rattle.lists.specs.Counts.{how_many, is_in}
use Rattle.lists.specs.Pieces.{among, keep}
use Rattle.lists.proofs.Among.{among-length}
use Rattle.lists.proofs.Booleans.{not-true, and_yes, and_left, and_right, or-no-left, or-no-right, or_yes_right}
use Rattle.lists.proofs.Many.{many-zero, many-some, many-weaker}
use Rattle.lists.proofs.Picks.{pick-case, never_both}
use Rattle.std.specs.Prelude.{Some, None, Result, Ok}
use Rattle.answers.specs.Answers.{Answer}
use Rattle.answers.specs.Tables.{empty}
use Rattle.answers.specs.Settings.{keystream, limit_fits}
use Rattle.answers.specs.declared.kinds.Refusal.TheVariants.{WrongBufferLength, LimitOutOfRange}
use Rattle.answers.specs.declared.trust.Source.TheVariants as source
use Rattle.answers.specs.declared.trust.Confidence.TheVariants as confidence
use Rattle.answers.specs.declared.notices.WarningKind.TheVariants as warning
use Rattle.answers.specs.declared.settings.Options.{Options}
use Rattle.slots.specs.Slots.{row_count_matches}
use Rattle.votes.specs.Votes.{counts_of, ballots, top_of, is_verified, candidate_of, blank_candidate, assessment_of}
use Rattle.votes.specs.declared.Candidate.{Candidate}
use Rattle.votes.specs.declared.Assessment.{Assessment}
use Rattle.votes.proofs.Eight.{few-candidates}
use Rattle.votes.proofs.Meaning.{top_byte, top-candidate}
use Rattle.votes.proofs.Tests.{lt-cases}
use Rattle.groups.specs.declared.Group.TheVariants.{Verified, Voted, Only, Others, Rivals, Contest, Supported}
use Rattle.groups.specs.Groups.{first_of, belongs, members, group, highest_of, bvs_of}
use Rattle.choice.specs.declared.Choice.{Choice}
use Rattle.choice.specs.declared.Refused.{Refused}
use Rattle.choice.specs.Rules.{taken_of, unless_refused, ambiguous_of, unverified_of, top_candidate, is_corroborated, is_calibrated}
use Rattle.choice.specs.Rules.{rule_three, rule_two, sole_of, rule_one, choice_of}
use Rattle.meanings.specs.Values.{exact_sectors, votes_for, stands_for}
use Rattle.meanings.specs.Sources.{Stands, Other, verified_number, NoneVerified, is_strong, is_disputed, disputed_number}
use Rattle.meanings.specs.Sources.{comes_before, Lists, Corroborates, Meaning}
use Rattle.meanings.proofs.Values.{ballots-number}
use Rattle.meanings.proofs.Passing.{none_pass, only_one, both-pass, among-ext, kept-among, First, first_passes}
use Rattle.meanings.proofs.Voting.{voted-stands, vote-alone, none-exact, all-agree, votes-apart}
use Rattle.meanings.proofs.Standing.{made, assessment, group-as}
use Rattle.meanings.proofs.Standing.{made-bv, made-verified, made-votes, made-voted, made-rival, made-contest, made-supported, made-outranks}
use Rattle.meanings.proofs.BvTable.{group-lists}
use Rattle.meanings.proofs.Ranking.{above_most, Highest, highest-passes}

and-rest : (a b : Bool) → a ≡ true → (a && b) ≡ false → b ≡ false
and-rest true b e f = f
and-rest false b e f = absurd (never_both refl e)

-- ---- what is disputed, by how many candidates are verified

module _ (lim : ℕ) (shifted anchors : List ℕ) (n t v : ℕ) where
  pub disputed-several : 2 ≤ verified_number lim shifted n t → is_disputed lim shifted anchors n t v ≡ (stands_for shifted v && is_verified lim shifted n t v)
  unfolding is_disputed
  disputed-several h = rw (le-leb 2 (verified_number lim shifted n t) h)

  pub disputed-one :
      verified_number lim shifted n t ≡ 1
      → is_disputed lim shifted anchors n t v ≡ (stands_for shifted v && (is_verified lim shifted n t v || is_strong shifted anchors v))
  unfolding is_disputed
  disputed-one h = rw (lt-leb 2 (verified_number lim shifted n t) (omega arith), eq-eqb (verified_number lim shifted n t) 1 h)

  pub disputed-voted : verified_number lim shifted n t ≡ 0 → is_disputed lim shifted anchors n t v ≡ (stands_for shifted v && ltb 0 (votes_for shifted v))
  unfolding is_disputed
  disputed-voted h =
      rw (lt-leb 2 (verified_number lim shifted n t) (omega arith), ne_eqb (verified_number lim shifted n t) 1 (λ e. omega arith))

  pub disputed-stands : is_disputed lim shifted anchors n t v ≡ true → stands_for shifted v ≡ true
  unfolding is_disputed
  disputed-stands h = and_left (stands_for shifted v) _ h

module _ (number : ℕ) (shifted anchors : List ℕ) (n : ℕ) (o : Options) (long : length shifted ≡ 4080) (bytes : AllBytes shifted)
    (within : limit_fits o.search_limit ≡ true) where
  abbrev t : ℕ
  t = o.min_trailer_count

  abbrev lim : ℕ
  lim = o.search_limit

  abbrev a : Assessment
  a = assessment lim shifted anchors n t

  abbrev make : ℕ → Candidate
  make v = made lim shifted anchors n t v

  abbrev tested : ℕ → Bool
  tested v = is_verified lim shifted n t v

  abbrev in_dispute : ℕ → Bool
  in_dispute v = is_disputed lim shifted anchors n t v

  -- ---- a dispute

  disputed-few : how_many in_dispute 256 ≤ 8
  unfolding stands_for
  disputed-few =
      omega (
        arith,
        many-weaker in_dispute (stands_for shifted) 256 (λ v h e. disputed-stands lim shifted anchors n t v e),
        few-candidates shifted long,
      )

  others-few : (m : ℕ) → how_many (λ v. in_dispute v && not (eqb v m)) 256 ≤ 8
  others-few m =
      omega (arith, many-weaker (λ v. in_dispute v && not (eqb v m)) in_dispute 256 (λ v h e. and_left (in_dispute v) (not (eqb v m)) e), disputed-few)

  before-most : (v w : ℕ) → comes_before lim shifted anchors n t v w ≡ true → votes_for shifted w ≤ votes_for shifted v
  unfolding comes_before
  before-most v w e = above_most (votes_for shifted v) (votes_for shifted w) _ e

  on-highest :
      (g : List Candidate)
      → g ≡ among in_dispute make 256
      → 2 ≤ disputed_number lim shifted anchors n t
      → keystream o ≡ true
      → (h : Candidate)
      → Highest make (made-bv lim shifted anchors n t) in_dispute h
      → Meaning number shifted anchors n o
      (Ok (taken_of a h source.Histogram confidence.Unverified (Some (warning.AmbiguousCalibration h.bv)) (bvs_of (members (Others h.bv) g))))
  unfolding taken_of candidate_of
  on-highest g e two k h l =
      let m : ℕ = l.at in
      let rest : members (Others m) g ≡ among (λ v. in_dispute v && not (eqb v m)) make 256 =
      ap (keep (belongs (Others m))) e ∙ kept-among make in_dispute (belongs (Others m)) 256 in
      let before : (v : ℕ) → Other shifted m v → in_dispute v ≡ true → comes_before lim shifted anchors n t m v ≡ true =
      λ v q d. sym (made-outranks lim shifted anchors n t m v l.small q.stands.byte bytes) ∙ l.rest v q.stands.byte d q.differs in
      subst
      (λ (x : Candidate).
      Meaning number shifted anchors n o
      (Ok (taken_of a x source.Histogram confidence.Unverified (Some (warning.AmbiguousCalibration x.bv)) (bvs_of (members (Others x.bv) g)))))
      (sym l.is)
      (Meaning.ranked
      (record {
        marked = record { from = refl; trusted = refl; warned = refl };
        within = within;
        lenient = k;
        stands = record { byte = l.small; candidate = disputed-stands lim shifted anchors n t m l.passes };
        dispute = two;
        disputed = l.passes;
        first = before;
        most = λ v q d. before-most m v (before v q d);
        others =
            subst (λ (c : List Candidate). Lists (λ v. in_dispute v && not (eqb v m)) (bvs_of c)) (sym rest)
            (group-lists lim shifted anchors n t (λ v. in_dispute v && not (eqb v m)) (others-few m));
      }))

  on-dispute :
      (g : List Candidate)
      → g ≡ among in_dispute make 256
      → 2 ≤ length g
      → Meaning number shifted anchors n o (ambiguous_of number (keystream o) a g)
  unfolding ambiguous_of disputed_number
  on-dispute g e two =
      let size : length g ≡ how_many in_dispute 256 = ap length e ∙ among-length in_dispute make 256 in
      let many : 2 ≤ disputed_number lim shifted anchors n t = omega (arith, size) in
      let best : Highest make (made-bv lim shifted anchors n t) in_dispute (highest_of (among in_dispute make 256)) =
      highest-passes make (made-bv lim shifted anchors n t) in_dispute (omega (arith, size)) in
      pick-case (Meaning number shifted anchors n o) (keystream o) _ _
      (λ k.
      on-highest g e many k (highest_of g) (subst (λ (l : List Candidate). Highest make (made-bv lim shifted anchors n t) in_dispute (highest_of l)) (sym e) best))
      (λ k.
      Meaning.ambiguous
      (record {
        marked = refl;
        within = within;
        strict = k;
        dispute = many;
        listed = subst (λ (l : List Candidate). Lists in_dispute (bvs_of l)) (sym e) (group-lists lim shifted anchors n t in_dispute disputed-few);
      }))

  -- ---- rule 4, and rule 3: the top as a candidate

  abbrev top : ℕ
  top = top_of (counts_of shifted)

  top-stands : Stands shifted top
  unfolding stands_for
  top-stands = record { byte = top_byte (counts_of shifted); candidate = top-candidate shifted (counts_of (ballots shifted)) (omega arith) bytes }

  top-made : top_candidate a ≡ make top
  unfolding assessment_of candidate_of
  top-made =
      let p : ℕ → Bool = λ v. stands_for shifted v && eqb v top in
      let e : group (Only a.top) a ≡ among p make 256 = group-as lim shifted anchors n t long (Only top) p (λ v h. refl) in
      let r : First make p blank_candidate 256 =
      first_passes make p blank_candidate 256
      (many-some p 256 top top-stands.byte (and_yes (stands_for shifted top) (eqb top top) top-stands.candidate (eq-eqb top top refl))) in
      ap first_of e ∙ r.first ∙ ap make (eqb-true r.at top (and_right (stands_for shifted r.at) (eqb r.at top) r.passes))

  abbrev backed : ℕ → Bool
  backed v = stands_for shifted v && (not (eqb v top) && (ltb 0 (votes_for shifted v) || is_in v anchors))

  supported : group (Supported top) a ≡ among backed make 256
  supported =
      group-as lim shifted anchors n t long (Supported top) backed
      (λ v h. ap (λ (b : Bool). stands_for shifted v && b) (made-supported lim shifted anchors n t v h top))

  support-number : length (group (Supported top) a) ≡ how_many backed 256
  support-number = ap length supported ∙ among-length backed make 256

  corroborated-means : is_corroborated a (make top) ≡ true → Corroborates shifted anchors top
  unfolding is_corroborated candidate_of assessment_of
  corroborated-means e =
      let rest : Bool = eqb (length (group (Supported top) a)) 0 in
      let votes : Bool = eqb (make top).votes 1 in
      let behind : (votes && (is_in top anchors && rest)) ≡ true = and_right (eqb (length (ballots shifted)) 1) _ e in
      let anchor : (is_in top anchors && rest) ≡ true = and_right votes _ behind in
      let none : how_many backed 256 ≡ 0 =
      omega (arith, support-number, eqb-true (length (group (Supported top) a)) 0 (and_right (is_in top anchors) rest anchor)) in
      record {
        one = sym (ballots-number shifted) ∙ eqb-true (length (ballots shifted)) 1 (and_left (eqb (length (ballots shifted)) 1) _ e);
        vote = sym (made-votes lim shifted anchors n t top top-stands.byte) ∙ eqb-true (make top).votes 1 (and_left votes _ behind);
        top = refl;
        anchored = and_left (is_in top anchors) rest anchor;
        alone =
            λ w q.
            or-no-right (ltb 0 (votes_for shifted w)) (is_in w anchors)
            (and-rest (not (eqb w top)) _ (ap not (ne_eqb w top q.differs))
            (and-rest (stands_for shifted w) _ q.stands.candidate (none_pass backed 256 none w q.stands.byte)));
      }

  corroborates-is : Corroborates shifted anchors top → is_corroborated a (make top) ≡ true
  unfolding is_corroborated candidate_of assessment_of
  corroborates-is q =
      let fails : (v : ℕ) → v < 256 → backed v ≡ false = λ v h. unsupported v h (ℕ_discrete v top) (stands_for shifted v) refl in
      let none : length (group (Supported top) a) ≡ 0 = support-number ∙ many-zero backed 256 fails in
      and_yes (eqb (length (ballots shifted)) 1) _ (eq-eqb (length (ballots shifted)) 1 (ballots-number shifted ∙ q.one))
      (and_yes (eqb (make top).votes 1) _ (eq-eqb (make top).votes 1 (made-votes lim shifted anchors n t top top-stands.byte ∙ q.vote))
      (and_yes (is_in top anchors) _ q.anchored (eq-eqb (length (group (Supported top) a)) 0 none)))
    where
      unsupported : (v : ℕ) → v < 256 → Dec (v ≡ top) → (b : Bool) → stands_for shifted v ≡ b → backed v ≡ false
      unsupported v h d false s = rw s
      unsupported v h (yes e) true s = rw (s, eq-eqb v top e)
      unsupported v h (no ne) true s =
          rw (
            s,
            ne_eqb v top ne,
            le-ltb 0 (votes_for shifted v) (omega (arith, votes-apart shifted top v ne, q.one, q.vote)),
            q.alone v (record { stands = record { byte = h; candidate = s }; differs = ne }),
          )

  module _ (none : NoneVerified lim shifted n t) (one : exact_sectors shifted ≤ 1) where
    on-top : is_corroborated a (make top) ≡ false → Meaning number shifted anchors n o (unverified_of number (keystream o) a (make top))
    unfolding unverified_of taken_of candidate_of
    on-top e =
        pick-case (Meaning number shifted anchors n o) (keystream o) _ _
        (λ k.
        Meaning.topmost
        (record {
          marked = record { from = refl; trusted = refl; warned = refl };
          unlisted = refl;
          within = within;
          lenient = k;
          stands = top-stands;
          top = refl;
          undecided = record { unverified = none; few = one; uncorroborated = λ q. never_both e (corroborates-is q) };
        }))
        (λ k.
        Meaning.unverified
        (record {
          marked = refl;
          unlisted = refl;
          within = within;
          strict = k;
          undecided = record { unverified = none; few = one; uncorroborated = λ q. never_both e (corroborates-is q) };
        }))

    on-three : Meaning number shifted anchors n o (rule_three number (keystream o) a)
    unfolding rule_three taken_of candidate_of
    on-three =
        subst
        (λ (c : Candidate).
        Meaning number shifted anchors n o
        (pick (is_corroborated a c) (Ok (taken_of a c source.Corroborated confidence.Corroborated None empty)) (unverified_of number (keystream o) a c)))
        (sym top-made)
        (pick-case (Meaning number shifted anchors n o) (is_corroborated a (make top))
        (Ok (taken_of a (make top) source.Corroborated confidence.Corroborated None empty))
        (unverified_of number (keystream o) a (make top))
        (λ e.
        Meaning.corroborated
        (record {
          marked = record { from = refl; trusted = refl; warned = refl };
          unlisted = refl;
          within = within;
          stands = top-stands;
          unverified = none;
          corroborates = corroborated-means e;
        }))
        on-top)

  -- ---- rule 2: no candidate is verified

  module _ (zero : verified_number lim shifted n t ≡ 0) where
    none-verified : NoneVerified lim shifted n t
    unfolding verified_number
    none-verified =
        record {
          none = λ v s. and-rest (stands_for shifted v) _ s.candidate (none_pass (λ v. stands_for shifted v && tested v) 256 zero v s.byte);
        }

    voted : group Voted a ≡ among in_dispute make 256
    voted =
        group-as lim shifted anchors n t long Voted in_dispute
        (λ v h.
        ap (λ (b : Bool). stands_for shifted v && b) (made-voted lim shifted anchors n t v h) ∙ sym (disputed-voted lim shifted anchors n t v zero))

    voted-number : length (group Voted a) ≡ how_many in_dispute 256
    voted-number = ap length voted ∙ among-length in_dispute make 256

    voted-disputed : (v : ℕ) → v < 256 → 0 < votes_for shifted v → in_dispute v ≡ true
    voted-disputed v h k =
        disputed-voted lim shifted anchors n t v zero
        ∙ and_yes (stands_for shifted v) _ (voted-stands shifted v h k) (lt-ltb 0 (votes_for shifted v) k)

    -- one voted value
    module _ (few-voted : length (group Voted a) < 2) (r : First make in_dispute blank_candidate 256) where
      first_made : first_of (group Voted a) ≡ make r.at
      first_made = ap first_of voted ∙ r.first

      only-voted : (v : ℕ) → v < 256 → 0 < votes_for shifted v → v ≡ r.at
      only-voted v h k = go (ℕ_discrete v r.at)
        where
          go : Dec (v ≡ r.at) → v ≡ r.at
          go (yes e) = e
          go (no ne) =
              absurd (never_both (only_one in_dispute 256 r.at (omega (arith, voted-number)) r.below r.passes v h ne) (voted-disputed v h k))

      votes-all : votes_for shifted r.at ≡ exact_sectors shifted
      votes-all = all-agree shifted r.at (vote-alone shifted long bytes r.at only-voted)

      first-votes : (first_of (group Voted a)).votes ≡ exact_sectors shifted
      first-votes = ap (λ (c : Candidate). c.votes) first_made ∙ made-votes lim shifted anchors n t r.at r.below ∙ votes-all

      on-calibrated :
          leb 2 (first_of (group Voted a)).votes ≡ true
          → Meaning number shifted anchors n o (Ok (taken_of a (first_of (group Voted a)) source.ExactSectors confidence.Calibrated None empty))
      unfolding taken_of candidate_of
      on-calibrated e =
          subst (λ (c : Candidate). Meaning number shifted anchors n o (Ok (taken_of a c source.ExactSectors confidence.Calibrated None empty)))
          (sym first_made)
          (Meaning.exact-sectors
          (record {
            marked = record { from = refl; trusted = refl; warned = refl };
            unlisted = refl;
            within = within;
            stands = record { byte = r.below; candidate = disputed-stands lim shifted anchors n t r.at r.passes };
            agreed =
                record {
                  unverified = none-verified;
                  two = omega (arith, first-votes, leb-true 2 (first_of (group Voted a)).votes e);
                  all = vote-alone shifted long bytes r.at only-voted;
                };
            votes = votes-all;
          }))

    few-exact :
        length (group Voted a) < 2
        → is_calibrated (length (group Voted a)) (group Voted a) ≡ false
        → exact_sectors shifted ≤ 1
    unfolding is_calibrated
    few-exact h e = lt-cases (exact_sectors shifted ≤ 1) 0 (length (group Voted a)) some unvoted
      where
        some : 0 < length (group Voted a) → exact_sectors shifted ≤ 1
        some k =
            let r : First make in_dispute blank_candidate 256 = first_passes make in_dispute blank_candidate 256 (omega (arith, voted-number)) in
            let one : eqb (length (group Voted a)) 1 ≡ true = eq-eqb (length (group Voted a)) 1 (omega arith) in
            omega (arith, first-votes h r, leb-false 2 (first_of (group Voted a)).votes (and-rest (eqb (length (group Voted a)) 1) _ one e))

        unvoted : length (group Voted a) ≤ 0 → exact_sectors shifted ≤ 1
        unvoted k =
            omega (
              arith,
              none-exact shifted long bytes
                  (λ v l j. never_both (none_pass in_dispute 256 (omega (arith, voted-number)) v l) (voted-disputed v l j)),
            )

    on-two : Meaning number shifted anchors n o (rule_two number (keystream o) a)
    unfolding rule_two is_calibrated
    on-two =
        let one : Result Choice Refused = Ok (taken_of a (first_of (group Voted a)) source.ExactSectors confidence.Calibrated None empty) in
        pick-case (Meaning number shifted anchors n o) (leb 2 (length (group Voted a))) (ambiguous_of number (keystream o) a (group Voted a))
        (pick (is_calibrated (length (group Voted a)) (group Voted a)) one (rule_three number (keystream o) a))
        (λ e. on-dispute (group Voted a) voted (leb-true 2 (length (group Voted a)) e))
        (λ e.
        let h : length (group Voted a) < 2 = leb-false 2 (length (group Voted a)) e in
        pick-case (Meaning number shifted anchors n o) (is_calibrated (length (group Voted a)) (group Voted a)) one (rule_three number (keystream o) a)
        (λ f.
        let size : length (group Voted a) ≡ 1 = eqb-true (length (group Voted a)) 1 (and_left (eqb (length (group Voted a)) 1) _ f) in
        on-calibrated h (first_passes make in_dispute blank_candidate 256 (omega (arith, voted-number))) (and_right (eqb (length (group Voted a)) 1) _ f))
        (λ f. on-three none-verified (few-exact h f)))

  -- ---- rule 1

  abbrev stands_tested : ℕ → Bool
  stands_tested v = stands_for shifted v && tested v

  verified : group Verified a ≡ among stands_tested make 256
  verified =
      group-as lim shifted anchors n t long Verified stands_tested (λ v h. ap (λ (b : Bool). stands_for shifted v && b) (made-verified lim shifted anchors n t v))

  verified-count : length (group Verified a) ≡ verified_number lim shifted n t
  unfolding verified_number
  verified-count = ap length verified ∙ among-length stands_tested make 256

  several : 2 ≤ verified_number lim shifted n t → group Verified a ≡ among in_dispute make 256
  several h = verified ∙ among-ext make stands_tested in_dispute 256 (λ v k. sym (disputed-several lim shifted anchors n t v h))

  -- one is verified
  module _ (k : ℕ) (small : k < 256) (both : stands_tested k ≡ true) (one : verified_number lim shifted n t ≡ 1) where
    k-stands : stands_for shifted k ≡ true
    k-stands = and_left (stands_for shifted k) (tested k) both

    k-verified : tested k ≡ true
    k-verified = and_right (stands_for shifted k) (tested k) both

    others-not : (v : ℕ) → Other shifted k v → tested v ≡ false
    unfolding verified_number
    others-not v q =
        and-rest (stands_for shifted v) (tested v) q.stands.candidate
        (only_one stands_tested 256 k (omega (arith, one)) small both v q.stands.byte q.differs)

    abbrev rival : ℕ → Bool
    rival v = stands_for shifted v && (not (eqb v k) && is_strong shifted anchors v)

    rivals : group (Rivals k a.top) a ≡ among rival make 256
    rivals =
        group-as lim shifted anchors n t long (Rivals k a.top) rival
        (λ v h. ap (λ (b : Bool). stands_for shifted v && b) (made-rival lim shifted anchors n t v h k))

    rivals-number : length (group (Rivals k a.top) a) ≡ how_many rival 256
    rivals-number = ap length rivals ∙ among-length rival make 256

    -- it and its rivals are those that are verified or strong
    contest-same :
        (v : ℕ)
        → v < 256
        → Dec (v ≡ k)
        → (b : Bool)
        → stands_for shifted v ≡ b
        → (stands_for shifted v && (eqb v k || (not (eqb v k) && is_strong shifted anchors v)))
        ≡ (stands_for shifted v && (tested v || is_strong shifted anchors v))
    contest-same v h d false s = rw s
    contest-same v h (yes e) true s = rw (s, eq-eqb v k e, ap tested e, k-verified)
    contest-same v h (no ne) true s = rw (s, ne_eqb v k ne, others-not v (record { stands = record { byte = h; candidate = s }; differs = ne }))

    contest : group (Contest k a.top) a ≡ among in_dispute make 256
    contest =
        group-as lim shifted anchors n t long (Contest k a.top) in_dispute
        (λ v h.
        ap (λ (b : Bool). stands_for shifted v && b) (made-contest lim shifted anchors n t v h k)
        ∙ contest-same v h (ℕ_discrete v k) (stands_for shifted v) refl
        ∙ sym (disputed-one lim shifted anchors n t v one))

    rival-disputed : (v : ℕ) → rival v ≡ true → (in_dispute v ≡ true) × (v ≡ k → ⊥)
    rival-disputed v e =
        let rest : (not (eqb v k) && is_strong shifted anchors v) ≡ true = and_right (stands_for shifted v) (not (eqb v k) && is_strong shifted anchors v) e in (
          disputed-one lim shifted anchors n t v one
              ∙ and_yes (stands_for shifted v) (tested v || is_strong shifted anchors v)
              (and_left (stands_for shifted v) (not (eqb v k) && is_strong shifted anchors v) e)
              (or_yes_right (tested v) (is_strong shifted anchors v) (and_right (not (eqb v k)) (is_strong shifted anchors v) rest)),
          λ q. never_both (ap not (eq-eqb v k q)) (and_left (not (eqb v k)) (is_strong shifted anchors v) rest),
        )

    itself-disputed : in_dispute k ≡ true
    itself-disputed = disputed-one lim shifted anchors n t k one ∙ ap₂ (λ (x y : Bool). x && (y || is_strong shifted anchors k)) k-stands k-verified

    contest-two : (length (group (Rivals k a.top) a) ≡ 0 → ⊥) → 2 ≤ length (group (Contest k a.top) a)
    contest-two some =
        let r : First make rival blank_candidate 256 = first_passes make rival blank_candidate 256 (omega (arith, rivals-number, some)) in
        omega (
          arith,
          ap length contest,
          among-length in_dispute make 256,
          both-pass in_dispute 256 r.at k r.below small (rival-disputed r.at r.passes).1 (rival-disputed r.at r.passes).0 itself-disputed,
        )

    on-sole : Meaning number shifted anchors n o (sole_of number (keystream o) a (make k))
    unfolding sole_of taken_of candidate_of is_verified is_strong
    on-sole =
        pick-case (Meaning number shifted anchors n o) (eqb (length (group (Rivals k a.top) a)) 0)
        (Ok (taken_of a (make k) source.TrailerRowCount confidence.Verified None empty))
        (ambiguous_of number (keystream o) a (group (Contest k a.top) a))
        (λ e.
        let none : how_many rival 256 ≡ 0 = sym rivals-number ∙ eqb-true (length (group (Rivals k a.top) a)) 0 e in
        let weak : (v : ℕ) → Other shifted k v → is_strong shifted anchors v ≡ false =
        λ v q.
        and-rest (not (eqb v k)) _ (ap not (ne_eqb v k q.differs))
        (and-rest (stands_for shifted v) _ q.stands.candidate (none_pass rival 256 none v q.stands.byte)) in
        Meaning.row_count
        (record {
          marked = record { from = refl; trusted = refl; warned = refl };
          unlisted = refl;
          within = within;
          sole =
              record {
                stands = record { byte = small; candidate = k-stands };
                rows = ltb-true 0 n (and_left (ltb 0 n) _ k-verified);
                passes = and_right (ltb 0 n) (row_count_matches lim (plain_of k shifted) n t) k-verified;
                alone = others-not;
                unvoted = λ v q. leb-false 2 (votes_for shifted v) (or-no-left (leb 2 (votes_for shifted v)) _ (weak v q));
                unanchored = λ v q e. unanchored v e (or-no-right (leb 2 (votes_for shifted v)) _ (weak v q));
              };
        }))
        (λ e. on-dispute (group (Contest k a.top) a) contest (contest-two (eqb-false (length (group (Rivals k a.top) a)) 0 e)))
      where
        unanchored : (v : ℕ) → v ≡ top → (is_in v anchors && eqb v top) ≡ false → is_in v anchors ≡ false
        unanchored v e f = not-true (is_in v anchors) (λ p. never_both f (and_yes (is_in v anchors) (eqb v top) p (eq-eqb v top e)))

  on_one : Meaning number shifted anchors n o (rule_one number (keystream o) a)
  unfolding rule_one
  on_one =
      let rest : Result Choice Refused =
      pick (eqb (length (group Verified a)) 1) (sole_of number (keystream o) a (first_of (group Verified a))) (rule_two number (keystream o) a) in
      pick-case (Meaning number shifted anchors n o) (leb 2 (length (group Verified a))) (ambiguous_of number (keystream o) a (group Verified a)) rest
      (λ e.
      let two : 2 ≤ length (group Verified a) = leb-true 2 (length (group Verified a)) e in
      on-dispute (group Verified a) (several (omega (arith, verified-count))) two)
      (λ e.
      pick-case (Meaning number shifted anchors n o) (eqb (length (group Verified a)) 1) (sole_of number (keystream o) a (first_of (group Verified a)))
      (rule_two number (keystream o) a) sole
      (λ f.
      on-two
      (omega (arith, verified-count, leb-false 2 (length (group Verified a)) e, eqb-false (length (group Verified a)) 1 f))))
    where
      sole : eqb (length (group Verified a)) 1 ≡ true → Meaning number shifted anchors n o (sole_of number (keystream o) a (first_of (group Verified a)))
      sole f =
          let one : length (group Verified a) ≡ 1 = eqb-true (length (group Verified a)) 1 f in
          let some : 0 < how_many stands_tested 256 = omega (arith, one, ap length verified, among-length stands_tested make 256) in
          let r : First make stands_tested blank_candidate 256 = first_passes make stands_tested blank_candidate 256 some in
          subst (λ (c : Candidate). Meaning number shifted anchors n o (sole_of number (keystream o) a c)) (sym (ap first_of verified ∙ r.first))
          (on-sole r.at r.below r.passes (sym verified-count ∙ one))

-- ---- every choice

pub every-choice :
    (number : ℕ) (shifted anchors : List ℕ) (n : ℕ) (o : Options)
    → AllBytes shifted
    → Meaning number shifted anchors n o (choice_of number shifted anchors n o)
unfolding choice_of
every-choice number shifted anchors n o bytes =
    let lim : ℕ = o.search_limit in
    let rule : Result Choice Refused = rule_one number (keystream o) (assessment lim shifted anchors n o.min_trailer_count) in
    let Q : Answer → Type 0 = λ x. Meaning number shifted anchors n o (unless_refused x rule) in
    pick-case Q (eqb (length shifted) 4080) (pick (limit_fits lim) None (Some (LimitOutOfRange lim))) (Some (WrongBufferLength (length shifted)))
    (λ e.
    pick-case Q (limit_fits lim) None (Some (LimitOutOfRange lim)) (λ w. on_one number shifted anchors n o (eqb-true (length shifted) 4080 e) bytes w)
    (λ w. Meaning.out_of_range (record { marked = refl; unlisted = refl; long = eqb-true (length shifted) 4080 e; outside = w })))
    (λ e. Meaning.wrong-length (record { marked = refl; unlisted = refl; wrong = eqb-false (length shifted) 4080 e }))
