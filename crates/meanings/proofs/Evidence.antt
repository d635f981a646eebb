-- THE EVIDENCE OF AN ACCEPTED CHOICE, proved. Assumes nothing.
use Prim.Native.Nat.{ℕ, zero, suc, ◌-◌, ◌≤◌, ◌<◌, max}
use mathlib.Core.Path.{◌≡◌, refl, sym, ap, ap₂, ◌∙◌, subst}
use mathlib.Core.Bool.{Bool, true, false, ◌&&◌, not}
use mathlib.Core.List.{List, [], ◌∷◌, ◌++◌, append-nil}
use mathlib.Core.Logic.{⊎_elim}
use native.Mathlib.Nat.{eq-or-lt_of_le, le_of_suc-le-suc}
use native.Mathlib.Omega.{arith}
use borrow.Author.Tests.{lt-ltb, ltb-true, ltb-false, eq-eqb, ne_eqb}
use lib.Dec.{eqb, ltb}
use lib.ListN.{length}
use Rattle.lists.specs.Bytes.{plain_of, AllBytes}
use Rattle.lists.specs.Cases.{pick}
use Rattle.lists.specs.Counts.{is_in}
use Rattle.lists.specs.Pieces.{among, fold}
use Rattle.lists.proofs.Booleans.{and_yes, and_left, and_right}
use Rattle.lists.proofs.Fold.{fold-last}
use Rattle.lists.proofs.Picks.{never_both}
use Rattle.answers.specs.Tables.{empty, with_item, with_if}
use Rattle.answers.specs.Trust.{Grounds, evidence_number}
use Rattle.answers.specs.declared.trust.Evidence.{Evidence}
use Rattle.answers.specs.declared.trust.Evidence.TheVariants as evidence
use Rattle.slots.specs.Slots.{row_count_matches}
use Rattle.votes.specs.Votes.{ballots, is_verified, candidate_of, assessment_of}
use Rattle.votes.specs.declared.Candidate.{Candidate}
use Rattle.votes.specs.declared.Assessment.{Assessment}
use Rattle.groups.specs.declared.Group.TheVariants.{Others}
use Rattle.groups.specs.Groups.{belongs, group, or_zeros, most_of}
use Rattle.choice.specs.Rules.{grounds_of}
use Rattle.meanings.specs.Values.{votes_for, dissent_from, zeros_with, stands_for}
use Rattle.meanings.specs.Sources.{Other}
use Rattle.meanings.specs.Evidence.{EvidenceTold, BestOther, LeadsBy, Supports, Evidenced}
use Rattle.meanings.proofs.Values.{ballots-number, ballots-at, exact-parted, zeros-at}
use Rattle.meanings.proofs.Standing.{group-values}
use Rattle.meanings.proofs.Taken.{Chosen, chosen-stands}
use Rattle.meanings.proofs.EvidenceTable.{UpTo, Kind, up_none, up_next, up-all}

-- ---- the greatest count among those that pass a test

record Met (p : ℕ → Bool) (f : ℕ → Candidate) (n m : ℕ) : Type 0 where
  at : ℕ
  within : at < n
  passes : p at ≡ true
  is : (f at).zeros ≡ m

record Most (p : ℕ → Bool) (f : ℕ → Candidate) (n m : ℕ) : Type 0 where
  above : (k : ℕ) → k < n → p k ≡ true → (f k).zeros ≤ m
  met : 0 < m → Met p f n m

module _ (p : ℕ → Bool) (f : ℕ → Candidate) where
  met-later : (n m : ℕ) → Met p f n m → Met p f (suc n) m
  met-later n m w = record { at = w.at; within = omega (arith, w.within); passes = w.passes; is = w.is }

  -- the next number does not pass
  most-not : (n m : ℕ) → p n ≡ false → Most p f n m → Most p f (suc n) m
  most-not n m e w =
      record {
        above = λ k h a. ⊎_elim (λ q. absurd (never_both e (ap p (sym q) ∙ a))) (λ l. w.above k l a) (eq-or-lt_of_le (le_of_suc-le-suc h));
        met = λ h. met-later n m (w.met h);
      }

  -- it passes
  most-more : (n m : ℕ) → p n ≡ true → Most p f n m → Most p f (suc n) (max m (f n).zeros)
  most-more n m e w =
      record {
        above =
            λ k h a.
            ⊎_elim (λ q. omega (arith, ap (λ (i : ℕ). (f i).zeros) q)) (λ l. omega (arith, w.above k l a)) (eq-or-lt_of_le (le_of_suc-le-suc h));
        met = λ h. go h (ltb (f n).zeros m) refl;
      }
    where
      go : 0 < max m (f n).zeros → (t : Bool) → ltb (f n).zeros m ≡ t → Met p f (suc n) (max m (f n).zeros)
      go h true q =
          let is : m ≡ max m (f n).zeros = omega (arith, ltb-true (f n).zeros m q) in
          subst (Met p f (suc n)) is (met-later n m (w.met (omega arith)))
      go h false q = record { at = n; within = omega arith; passes = e; is = omega (arith, ltb-false (f n).zeros m q) }

  most-among : (n : ℕ) → Most p f n (most_of (among p f n))
  unfolding among most_of fold
  most-among zero = record { above = λ k h a. absurd (omega arith); met = λ h. absurd (omega arith) }
  most-among (suc n) = go (p n) refl (most-among n)
    where
      go : (b : Bool) → p n ≡ b → Most p f n (most_of (among p f n)) → Most p f (suc n) (most_of (among p f n ++ pick b (f n ∷ []) []))
      go false e ih = subst (λ (l : List Candidate). Most p f (suc n) (most_of l)) (sym (append-nil (among p f n))) (most-not n (most_of (among p f n)) e ih)
      go true e ih = subst (Most p f (suc n)) (sym (fold-last or_zeros 0 (among p f n) (f n))) (most-more n (most_of (among p f n)) e ih)

-- ---- the lead

-- there is but one lead
leads-alone : (shifted : List ℕ) (bv x y : ℕ) → LeadsBy shifted bv x → LeadsBy shifted bv y → x ≡ y
leads-alone shifted bv x y a b = omega (arith, a.lead_is, b.lead_is, below a.best a b refl, below b.best b a refl)
  where
    below : (m : ℕ) {u w : ℕ} (c : LeadsBy shifted bv u) (d : LeadsBy shifted bv w) → m ≡ c.best → m ≤ d.best
    below zero c d e = omega arith
    below (suc m) c d e =
        let z : BestOther shifted bv c.best = c.met (omega arith) in
        omega (arith, z.zeros, d.most z.value z.other)

module _ (lim : ℕ) (shifted anchors : List ℕ) (n t bv : ℕ) (b : AllBytes shifted) where
  abbrev a : Assessment
  a = assessment_of lim shifted anchors n t

  abbrev at : ℕ → Candidate
  at v = candidate_of lim shifted anchors n t v

  abbrev best : ℕ
  best = most_of (group (Others bv) a)

  zeros-are : (v : ℕ) → v < 256 → (at v).zeros ≡ zeros_with shifted v
  unfolding candidate_of
  zeros-are v h = zeros-at shifted v h b

  abbrev is_other : ℕ → Bool
  is_other v = stands_for shifted v && belongs (Others bv) (at v)

  is-other : (v : ℕ) → Other shifted bv v → is_other v ≡ true
  unfolding candidate_of
  is-other v q = and_yes (stands_for shifted v) (not (eqb v bv)) q.stands.candidate (ap not (ne_eqb v bv q.differs))

  other-is : (v : ℕ) → v < 256 → is_other v ≡ true → Other shifted bv v
  unfolding candidate_of
  other-is v h e =
      record {
        stands = record { byte = h; candidate = and_left (stands_for shifted v) (not (eqb v bv)) e };
        differs = λ q. never_both (ap not (eq-eqb v bv q)) (and_right (stands_for shifted v) (not (eqb v bv)) e);
      }

  module _ (long : length shifted ≡ 4080) where
    most : Most is_other at 256 best
    most =
        subst (λ (l : List Candidate). Most is_other at 256 (most_of l)) (sym (group-values lim shifted anchors n t long (Others bv)))
        (most-among is_other at 256)

    leads : LeadsBy shifted bv (zeros_with shifted bv - best)
    leads =
        record {
          best = best;
          most = λ v q. omega (arith, zeros-are v q.stands.byte, most.above v q.stands.byte (is-other v q));
          met =
              λ h.
              let m : Met is_other at 256 best = most.met h in
              record { value = m.at; other = other-is m.at m.within m.passes; zeros = sym (zeros-are m.at m.within) ∙ m.is };
          lead_is = refl;
        }

-- ---- kind by kind

module _ (lim : ℕ) (shifted anchors : List ℕ) (n t bv : ℕ) where
  abbrev So : Evidence → Type 0
  So = Supports lim shifted anchors n t bv

  rows-so : Kind So evidence.TrailerRowCount (is_verified lim shifted n t bv)
  unfolding Supports is_verified
  rows-so = record { so = λ e. (ltb-true 0 n (and_left (ltb 0 n) passes e), and_right (ltb 0 n) passes e); alone = alone }
    where
      passes : Bool
      passes = row_count_matches lim (plain_of bv shifted) n t

      alone : (e : Evidence) → evidence_number e ≡ 1 → So e → (is_verified lim shifted n t bv ≡ true) × (e ≡ evidence.TrailerRowCount)
      alone evidence.TrailerRowCount h s = (and_yes (ltb 0 n) passes (lt-ltb 0 n s.0) s.1, refl)
      alone (evidence.ExactSectors c d) h s = absurd (omega arith)
      alone evidence.BlockAnchor h s = absurd (omega arith)
      alone (evidence.ZeroMass z l) h s = absurd (omega arith)
      alone evidence.Unallocated h s = absurd s

  votes-so : Kind So (evidence.ExactSectors (votes_for shifted bv) (dissent_from shifted bv)) (ltb 0 (votes_for shifted bv))
  unfolding Supports
  votes-so = record { so = λ e. (ltb-true 0 (votes_for shifted bv) e, refl, refl); alone = alone }
    where
      alone :
          (e : Evidence)
          → evidence_number e ≡ 2
          → So e
          → (ltb 0 (votes_for shifted bv) ≡ true) × (e ≡ evidence.ExactSectors (votes_for shifted bv) (dissent_from shifted bv))
      alone evidence.TrailerRowCount h s = absurd (omega arith)
      alone (evidence.ExactSectors c d) h s = (lt-ltb 0 (votes_for shifted bv) s.0, ap₂ evidence.ExactSectors s.1 s.2)
      alone evidence.BlockAnchor h s = absurd (omega arith)
      alone (evidence.ZeroMass z l) h s = absurd (omega arith)
      alone evidence.Unallocated h s = absurd s

  anchor-so : Kind So evidence.BlockAnchor (is_in bv anchors)
  unfolding Supports
  anchor-so = record { so = λ e. e; alone = alone }
    where
      alone : (e : Evidence) → evidence_number e ≡ 3 → So e → (is_in bv anchors ≡ true) × (e ≡ evidence.BlockAnchor)
      alone evidence.TrailerRowCount h s = absurd (omega arith)
      alone (evidence.ExactSectors c d) h s = absurd (omega arith)
      alone evidence.BlockAnchor h s = (s, refl)
      alone (evidence.ZeroMass z l) h s = absurd (omega arith)
      alone evidence.Unallocated h s = absurd s

  mass-so : (lead : ℕ) → LeadsBy shifted bv lead → Kind So (evidence.ZeroMass (zeros_with shifted bv) lead) true
  unfolding Supports
  mass-so lead w = record { so = λ e. (refl, w); alone = alone }
    where
      alone : (e : Evidence) → evidence_number e ≡ 4 → So e → (◌≡◌ {A = Bool} true true) × (e ≡ evidence.ZeroMass (zeros_with shifted bv) lead)
      alone evidence.TrailerRowCount h s = absurd (omega arith)
      alone (evidence.ExactSectors c d) h s = absurd (omega arith)
      alone evidence.BlockAnchor h s = absurd (omega arith)
      alone (evidence.ZeroMass z l) h s = (refl, ap₂ evidence.ZeroMass s.0 (leads-alone shifted bv l lead s.1 w))
      alone evidence.Unallocated h s = absurd s

  -- the table, in the words of the page
  abbrev rows_told : Grounds
  rows_told = with_if (is_verified lim shifted n t bv) empty evidence.TrailerRowCount

  abbrev votes_told : Grounds
  votes_told = with_if (ltb 0 (votes_for shifted bv)) rows_told (evidence.ExactSectors (votes_for shifted bv) (dissent_from shifted bv))

  abbrev anchor_told : Grounds
  anchor_told = with_if (is_in bv anchors) votes_told evidence.BlockAnchor

  abbrev all_told : ℕ → Grounds
  all_told lead = with_item anchor_told (evidence.ZeroMass (zeros_with shifted bv) lead)

  fifth-not : (e : Evidence) → 4 < evidence_number e → So e → ⊥
  unfolding Supports
  fifth-not evidence.TrailerRowCount h s = omega arith
  fifth-not (evidence.ExactSectors c d) h s = omega arith
  fifth-not evidence.BlockAnchor h s = omega arith
  fifth-not (evidence.ZeroMass z l) h s = omega arith
  fifth-not evidence.Unallocated h s = s

  told : (lead : ℕ) → LeadsBy shifted bv lead → EvidenceTold So (all_told lead)
  told lead w =
      let none : UpTo So 0 empty = up_none So in
      let rows : UpTo So 1 rows_told = up_next So 0 empty none evidence.TrailerRowCount refl (omega arith) (is_verified lim shifted n t bv) rows-so in
      let votes : UpTo So 2 votes_told = up_next So 1 rows_told rows _ refl (omega arith) (ltb 0 (votes_for shifted bv)) votes-so in
      let anchor : UpTo So 3 anchor_told = up_next So 2 votes_told votes evidence.BlockAnchor refl (omega arith) (is_in bv anchors) anchor-so in
      let all : UpTo So 4 (all_told lead) = up_next So 3 anchor_told anchor _ refl (omega arith) true (mass-so lead w) in
      up-all So 4 (all_told lead) all fifth-not

  -- and what the rules list
  module _ (h : bv < 256) (b : AllBytes shifted) where
    abbrev assessment : Assessment
    assessment = assessment_of lim shifted anchors n t

    dissent-is : length (ballots shifted) - votes_for shifted bv ≡ dissent_from shifted bv
    dissent-is = omega (arith, ballots-number shifted, exact-parted shifted bv)

    listed-told : grounds_of assessment (candidate_of lim shifted anchors n t bv) ≡ all_told (zeros_with shifted bv - most_of (group (Others bv) assessment))
    unfolding grounds_of candidate_of assessment_of
    listed-told = rw (ballots-at shifted bv h, dissent-is, zeros-at shifted bv h b)

pub evidenced : Evidenced
evidenced =
    record {
      choice =
          λ number shifted anchors n o b c good.
          let lim : ℕ = o.search_limit in
          let t : ℕ = o.min_trailer_count in
          let w : Chosen lim shifted anchors n t c = chosen-stands number shifted anchors n o b c good in
          subst (EvidenceTold (Supports lim shifted anchors n t c.bv)) (sym (w.grounds ∙ listed-told lim shifted anchors n t c.bv w.byte b))
          (told lim shifted anchors n t c.bv _ (leads lim shifted anchors n t c.bv b w.long));
    }
