-- A SUPPLIED bv: what it means, proved. Assumes nothing.
use Prim.Native.Nat.{ℕ, ◌-◌, ◌<◌}
use mathlib.Core.Path.{◌≡◌, refl, sym, ap, ap₂, ◌∙◌, subst}
use mathlib.Core.Bool.{Bool, true, false, ◌&&◌}
use mathlib.Core.List.{List}
use native.Mathlib.Decide.{ℕ_discrete}
use native.Mathlib.Omega.{arith}
use borrow.Author.Tests.{le-leb, leb-true, eq-eqb, eqb-true}
use lib.Dec.{eqb, leb}
use lib.ListN.{length}
use Rattle.lists.proofs.Booleans.{and_yes, and_left, and_right}
use Rattle.lists.proofs.Picks.{never_both}
use Rattle.answers.specs.Settings.{keystream, limit_fits}
use Rattle.std.specs.Prelude.{Option, Some, None, Result, Ok, Err, IsOkAnd, IsErrAnd}
use Rattle.answers.specs.Tables.{empty, with_if}
use Rattle.answers.specs.Answers.{number_of, refusal_number}
use Rattle.answers.specs.Trust.{Grounds, confidence_number, evidence_number}
use Rattle.answers.specs.declared.kinds.Refusal.{Refusal}
use Rattle.answers.specs.declared.kinds.Refusal.TheVariants.{WrongBufferLength, KeystreamUnverified, LimitOutOfRange}
use Rattle.answers.specs.declared.trust.Confidence.{Confidence}
use Rattle.answers.specs.declared.trust.Confidence.TheVariants as confidence
use Rattle.answers.specs.declared.trust.Evidence.{Evidence}
use Rattle.answers.specs.declared.trust.Evidence.TheVariants as evidence
use Rattle.answers.specs.declared.notices.WarningKind.{WarningKind}
use Rattle.answers.specs.declared.notices.WarningKind.TheVariants as warning
use Rattle.answers.specs.declared.settings.Options.{Options}
use Rattle.votes.specs.Votes.{ballots}
use Rattle.choice.specs.declared.Choice.{Choice}
use Rattle.choice.specs.declared.Refused.{Refused}
use Rattle.choice.specs.Rules.{refusal, refused_answer}
use Rattle.choice.specs.Supplied.{supplied_with, supplied_by, supplied_of}
use Rattle.choice.proofs.ChoiceCases.{supplied_grounds, asked-length, asked-limit, supplied_refused, supplied-verified, supplied-calibrated, supplied-lenient, supplied-refused}
use Rattle.meanings.specs.Values.{votes_for, dissent_from}
use Rattle.meanings.specs.Evidence.{EvidenceTold}
use Rattle.meanings.specs.Supplied.{Calibrates, passes, Backs, Unbacked, TakenAs, RefusedAs, SuppliedMeaning, SuppliedSaid, SuppliedMade, SuppliedMeans}
use Rattle.meanings.proofs.Values.{ballots-number, ballots-count, exact-parted}
use Rattle.meanings.proofs.EvidenceTable.{UpTo, Kind, up_none, up_next, up-all}

-- ---- the evidence

module _ (lim bv : ℕ) (shifted : List ℕ) (n t : ℕ) where
  abbrev So : Evidence → Type 0
  So = Backs lim bv shifted n t

  abbrev matches : Bool
  matches = passes lim bv shifted n t

  abbrev votes : ℕ
  votes = votes_for shifted bv

  abbrev dissent : ℕ
  dissent = dissent_from shifted bv

  later-not : (e : Evidence) → 2 < evidence_number e → So e → ⊥
  unfolding Backs
  later-not evidence.TrailerRowCount h s = omega arith
  later-not (evidence.ExactSectors c d) h s = omega arith
  later-not evidence.BlockAnchor h s = s
  later-not (evidence.ZeroMass z l) h s = s
  later-not evidence.Unallocated h s = s

  rows-so : Kind So evidence.TrailerRowCount matches
  unfolding Backs
  rows-so = record { so = λ e. e; alone = alone }
    where
      alone : (e : Evidence) → evidence_number e ≡ 1 → So e → (matches ≡ true) × (e ≡ evidence.TrailerRowCount)
      alone evidence.TrailerRowCount h s = (s, refl)
      alone (evidence.ExactSectors c d) h s = absurd (omega arith)
      alone evidence.BlockAnchor h s = absurd s
      alone (evidence.ZeroMass z l) h s = absurd s
      alone evidence.Unallocated h s = absurd s

  votes-so : Kind So (evidence.ExactSectors votes dissent) (leb 2 votes)
  unfolding Backs
  votes-so = record { so = λ e. (leb-true 2 votes e, refl, refl); alone = alone }
    where
      alone : (e : Evidence) → evidence_number e ≡ 2 → So e → (leb 2 votes ≡ true) × (e ≡ evidence.ExactSectors votes dissent)
      alone evidence.TrailerRowCount h s = absurd (omega arith)
      alone (evidence.ExactSectors c d) h s = (le-leb 2 votes s.0, ap₂ evidence.ExactSectors s.1 s.2)
      alone evidence.BlockAnchor h s = absurd s
      alone (evidence.ZeroMass z l) h s = absurd s
      alone evidence.Unallocated h s = absurd s

  told : EvidenceTold So (supplied_grounds votes dissent matches)
  told =
      let none : UpTo So 0 empty = up_none So in
      let first : Grounds = with_if matches empty evidence.TrailerRowCount in
      let rows : UpTo So 1 first = up_next So 0 empty none evidence.TrailerRowCount refl (omega arith) matches rows-so in
      let all : UpTo So 2 (supplied_grounds votes dissent matches) = up_next So 1 first rows _ refl (omega arith) (leb 2 votes) votes-so in
      up-all So 2 (supplied_grounds votes dissent matches) all later-not

-- ---- what it is

module _ (number bv : ℕ) (shifted : List ℕ) (n : ℕ) (o : Options) where
  abbrev t : ℕ
  t = o.min_trailer_count

  abbrev lim : ℕ
  lim = o.search_limit

  abbrev s : Result Choice Refused
  s = supplied_of number bv shifted n o

  abbrev v : ℕ
  v = votes_for shifted bv

  abbrev d : ℕ
  d = dissent_from shifted bv

  abbrev m : Bool
  m = passes lim bv shifted n t

  abbrev l : Bool
  l = keystream o

  abbrev agreed : Bool
  agreed = leb 2 v && eqb d 0

  taken_as :
      (k : Confidence) (w : Option WarningKind) → s ≡ Ok (supplied_with bv k (supplied_grounds v d m) w) → IsOkAnd s (TakenAs number bv shifted n o k w)
  taken_as k w e =
      subst (λ (r : Result Choice Refused). IsOkAnd r (TakenAs number bv shifted n o k w)) (sym e)
      (record { value = refl; from = refl; trusted = refl; evidence = told lim bv shifted n t; unlisted = refl; warned = refl })

  refused_as : (x : Refusal) → s ≡ Err (refusal x) → IsErrAnd s (RefusedAs number bv shifted n o x)
  refused_as x e =
      subst (λ (r : Result Choice Refused). IsErrAnd r (RefusedAs number bv shifted n o x)) (sym e) (record { answered = refl; unlisted = refl })

  calibrates : agreed ≡ true → Calibrates shifted bv
  calibrates e =
      record {
        two = leb-true 2 v (and_left (leb 2 v) (eqb d 0) e);
        agreed = eqb-true d 0 (and_right (leb 2 v) (eqb d 0) e);
      }

  calibrates-not : agreed ≡ false → Calibrates shifted bv → ⊥
  calibrates-not e c =
      never_both e
      (and_yes (leb 2 v) (eqb d 0) (le-leb 2 v c.two) (eq-eqb d 0 c.agreed))

  by-words : length shifted ≡ 4080 → limit_fits lim ≡ true → s ≡ supplied_by number l bv v d m
  unfolding supplied_of
  by-words h f =
      let e : length (ballots shifted) - v ≡ d = omega (arith, ballots-number shifted, exact-parted shifted bv) in
      rw (eq-eqb (length shifted) 4080 h, f, ballots-count shifted bv, e)

  unbacked : m ≡ false → agreed ≡ false → Unbacked lim bv shifted n t
  unbacked p q = record { unpassed = p; uncalibrated = calibrates-not q }

  module _ (h : length shifted ≡ 4080) (f : limit_fits lim ≡ true) where
    judged : (x : Bool) → m ≡ x → (y : Bool) → agreed ≡ y → (z : Bool) → l ≡ z → SuppliedMeaning number bv shifted n o s
    judged true p y q z r = SuppliedMeaning.verified h f p (taken_as confidence.Verified None (by-words h f ∙ supplied-verified number l bv v d m p))
    judged false p true q z r =
        SuppliedMeaning.calibrated h f p (calibrates q) (taken_as confidence.Calibrated None (by-words h f ∙ supplied-calibrated number l bv v d m p q))
    judged false p false q true r =
        SuppliedMeaning.unverified h f (unbacked p q) r
        (taken_as confidence.Unverified (Some (warning.UnverifiedKeystream bv)) (by-words h f ∙ supplied-lenient number l bv v d m p q r))
    judged false p false q false r =
        SuppliedMeaning.refused h f (unbacked p q) r
        (refused_as (KeystreamUnverified number bv) (by-words h f ∙ supplied-refused number l bv v d m p q r))

  limited : length shifted ≡ 4080 → (b : Bool) → limit_fits lim ≡ b → SuppliedMeaning number bv shifted n o s
  limited h true f = judged h f m refl agreed refl l refl
  limited h false f = SuppliedMeaning.out_of_range h f (refused_as (LimitOutOfRange lim) (supplied_refused number bv shifted n o _ (asked-limit (length shifted) lim h f)))

  means : Dec (length shifted ≡ 4080) → SuppliedMeaning number bv shifted n o s
  means (yes h) = limited h (limit_fits lim) refl
  means (no ne) = SuppliedMeaning.wrong-length ne (refused_as (WrongBufferLength (length shifted)) (supplied_refused number bv shifted n o _ (asked-length (length shifted) lim ne)))

  -- ---- what the marks say

  trusted-apart :
      {P : Type 0} (k : Confidence) (w : Option WarningKind) (r : Result Choice Refused)
      → IsOkAnd r (TakenAs number bv shifted n o k w)
      → (c : Choice)
      → r ≡ Ok c
      → {j : Confidence}
      → c.confidence ≡ j
      → eqb (confidence_number k) (confidence_number j) ≡ false
      → P
  trusted-apart k w r a c e {j = j} f h =
      let taken : TakenAs number bv shifted n o k w c = subst (λ (q : Result Choice Refused). IsOkAnd q (TakenAs number bv shifted n o k w)) e a in
      absurd (never_both h (eq-eqb (confidence_number k) (confidence_number j) (ap confidence_number (sym taken.trusted ∙ f))))

  -- a refused one is no accepted one
  refused-apart :
      {P : Type 0} (x : Refusal) (r : Result Choice Refused) → IsErrAnd r (RefusedAs number bv shifted n o x) → (c : Choice) → r ≡ Ok c → P
  refused-apart x r a c e = absurd (subst (λ (q : Result Choice Refused). IsErrAnd q (RefusedAs number bv shifted n o x)) e a)

  answers-apart :
      {P : Type 0} (x : Refusal) {k : ℕ} (r : Result Choice Refused)
      → IsErrAnd r (RefusedAs number bv shifted n o x)
      → number_of (refused_answer r) ≡ k
      → eqb (refusal_number x) k ≡ false
      → P
  answers-apart x (Ok c) a e h = absurd a
  answers-apart x {k = k} (Err y) a e h =
      absurd (never_both h (eq-eqb (refusal_number x) k (ap refusal_number (sym a.answered) ∙ e)))

  accepted-apart :
      {P : Type 0} (k : Confidence) (w : Option WarningKind) {j : ℕ} (r : Result Choice Refused)
      → IsOkAnd r (TakenAs number bv shifted n o k w)
      → number_of (refused_answer r) ≡ j
      → eqb 0 j ≡ false
      → P
  accepted-apart k w {j = j} (Ok c) a e h = absurd (never_both h (eq-eqb 0 j e))
  accepted-apart k w (Err y) a e h = absurd a

  said-by : SuppliedMeaning number bv shifted n o s → SuppliedSaid number bv shifted n o s
  said-by (SuppliedMeaning.verified h f p w) =
      record {
        accepted = λ e. (h, f);
        verified = λ c q e. p;
        calibrated = λ c q e. trusted-apart _ _ s w c q e refl;
        unverified = λ c q e. trusted-apart _ _ s w c q e refl;
        refused = λ e. accepted-apart _ _ s w e refl;
        out_of_range = λ e. accepted-apart _ _ s w e refl;
        wrong-length = λ e. accepted-apart _ _ s w e refl;
      }
  said-by (SuppliedMeaning.calibrated h f p a w) =
      record {
        accepted = λ e. (h, f);
        verified = λ c q e. trusted-apart _ _ s w c q e refl;
        calibrated = λ c q e. (p, a);
        unverified = λ c q e. trusted-apart _ _ s w c q e refl;
        refused = λ e. accepted-apart _ _ s w e refl;
        out_of_range = λ e. accepted-apart _ _ s w e refl;
        wrong-length = λ e. accepted-apart _ _ s w e refl;
      }
  said-by (SuppliedMeaning.unverified h f u r w) =
      record {
        accepted = λ e. (h, f);
        verified = λ c q e. trusted-apart _ _ s w c q e refl;
        calibrated = λ c q e. trusted-apart _ _ s w c q e refl;
        unverified = λ c q e. (u, r);
        refused = λ e. accepted-apart _ _ s w e refl;
        out_of_range = λ e. accepted-apart _ _ s w e refl;
        wrong-length = λ e. accepted-apart _ _ s w e refl;
      }
  said-by (SuppliedMeaning.refused h f u r w) =
      record {
        accepted = λ e. answers-apart _ s w e refl;
        verified = λ c q e. refused-apart _ s w c q;
        calibrated = λ c q e. refused-apart _ s w c q;
        unverified = λ c q e. refused-apart _ s w c q;
        refused = λ e. (u, r);
        out_of_range = λ e. answers-apart _ s w e refl;
        wrong-length = λ e. answers-apart _ s w e refl;
      }
  said-by (SuppliedMeaning.out_of_range h f w) =
      record {
        accepted = λ e. answers-apart _ s w e refl;
        verified = λ c q e. refused-apart _ s w c q;
        calibrated = λ c q e. refused-apart _ s w c q;
        unverified = λ c q e. refused-apart _ s w c q;
        refused = λ e. answers-apart _ s w e refl;
        out_of_range = λ e. (h, f);
        wrong-length = λ e. answers-apart _ s w e refl;
      }
  said-by (SuppliedMeaning.wrong-length ne w) =
      record {
        accepted = λ e. answers-apart _ s w e refl;
        verified = λ c q e. refused-apart _ s w c q;
        calibrated = λ c q e. refused-apart _ s w c q;
        unverified = λ c q e. refused-apart _ s w c q;
        refused = λ e. answers-apart _ s w e refl;
        out_of_range = λ e. answers-apart _ s w e refl;
        wrong-length = λ e. ne;
      }

  -- ---- what the page makes of it

  made_by : SuppliedMeaning number bv shifted n o s → SuppliedMade number bv shifted n o s
  made_by (SuppliedMeaning.verified h f p w) =
      record {
        verified = λ i g q. w;
        calibrated = λ i g q c. absurd (never_both q p);
        unverified = λ i g u r. absurd (never_both u.unpassed p);
        refused = λ i g u r. absurd (never_both u.unpassed p);
        out_of_range = λ i g. absurd (never_both g f);
        wrong-length = λ ne. absurd (ne h);
      }
  made_by (SuppliedMeaning.calibrated h f p c w) =
      record {
        verified = λ i g q. absurd (never_both p q);
        calibrated = λ i g q b. w;
        unverified = λ i g u r. absurd (u.uncalibrated c);
        refused = λ i g u r. absurd (u.uncalibrated c);
        out_of_range = λ i g. absurd (never_both g f);
        wrong-length = λ ne. absurd (ne h);
      }
  made_by (SuppliedMeaning.unverified h f u r w) =
      record {
        verified = λ i g q. absurd (never_both u.unpassed q);
        calibrated = λ i g q c. absurd (u.uncalibrated c);
        unverified = λ i g b q. w;
        refused = λ i g b q. absurd (never_both q r);
        out_of_range = λ i g. absurd (never_both g f);
        wrong-length = λ ne. absurd (ne h);
      }
  made_by (SuppliedMeaning.refused h f u r w) =
      record {
        verified = λ i g q. absurd (never_both u.unpassed q);
        calibrated = λ i g q c. absurd (u.uncalibrated c);
        unverified = λ i g b q. absurd (never_both r q);
        refused = λ i g b q. w;
        out_of_range = λ i g. absurd (never_both g f);
        wrong-length = λ ne. absurd (ne h);
      }
  made_by (SuppliedMeaning.out_of_range h f w) =
      record {
        verified = λ i g q. absurd (never_both f g);
        calibrated = λ i g q c. absurd (never_both f g);
        unverified = λ i g u q. absurd (never_both f g);
        refused = λ i g u q. absurd (never_both f g);
        out_of_range = λ i g. w;
        wrong-length = λ ne. absurd (ne h);
      }
  made_by (SuppliedMeaning.wrong-length ne w) =
      record {
        verified = λ i g q. absurd (ne i);
        calibrated = λ i g q c. absurd (ne i);
        unverified = λ i g u q. absurd (ne i);
        refused = λ i g u q. absurd (ne i);
        out_of_range = λ i g. absurd (ne i);
        wrong-length = λ no_more. w;
      }

  supplied-meaning : SuppliedMeaning number bv shifted n o s
  supplied-meaning = means (ℕ_discrete (length shifted) 4080)

pub supplied-means : SuppliedMeans
supplied-means =
    record {
      every = supplied-meaning;
      said = λ number bv shifted n o. said-by number bv shifted n o (supplied-meaning number bv shifted n o);
      made = λ number bv shifted n o. made_by number bv shifted n o (supplied-meaning number bv shifted n o);
    }
