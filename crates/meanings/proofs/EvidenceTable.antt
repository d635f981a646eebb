-- A table of evidence that is filled kind by kind, in the order of their numbers: it lists the evidence that holds, and no other. Assumes nothing.
use Prim.Native.Nat.{ℕ, zero, suc, ◌+◌, ◌≤◌, ◌<◌}
use mathlib.Core.Path.{◌≡◌, refl, sym, ap, ◌∙◌, subst}
use mathlib.Core.Bool.{Bool, true, false}
use native.Mathlib.Decide.{ℕ_discrete}
use native.Mathlib.Omega.{arith}
use lib.ListN.{length, set, length-set}
use lib.Seq.{get_or-set_same, get_or-set_other}
use Rattle.lists.proofs.Picks.{pick-gt, never_both}
use Rattle.std.specs.Prelude.{Option, Some, None, IsSomeAnd}
use Rattle.answers.specs.Tables.{empty, with_item, with_if}
use Rattle.answers.specs.Trust.{Grounds, evidence_number}
use Rattle.answers.specs.declared.trust.Evidence.{Evidence}
use Rattle.answers.specs.declared.trust.Evidence.TheVariants as evidence
use Rattle.votes.proofs.Tests.{lt-cases}
use Rattle.meanings.specs.Evidence.{evidence_at, number_in, InTable, EvidenceTold}

-- a table after the kinds 1 to k
pub record UpTo (Holds : Evidence → Type 0) (k : ℕ) (g : Grounds) : Type 0 where
  pub only : (i : ℕ) → i < g.len → IsSomeAnd (evidence_at g i) Holds
  pub every : (e : Evidence) → evidence_number e ≤ k → Holds e → InTable g e
  pub order : (i j : ℕ) → i < j → j < g.len → number_in (evidence_at g i) < number_in (evidence_at g j)
  pub low : (i : ℕ) → i < g.len → number_in (evidence_at g i) ≤ k
  pub blank : (i : ℕ) → g.len ≤ i → evidence_at g i ≡ None
  pub room : length g.items ≡ 4
  pub few : g.len ≤ k

-- what a kind says: x holds where the test passes, and nothing else of its kind ever does
pub record Kind (Holds : Evidence → Type 0) (x : Evidence) (test : Bool) : Type 0 where
  pub so : test ≡ true → Holds x
  pub alone : (e : Evidence) → evidence_number e ≡ evidence_number x → Holds e → (test ≡ true) × (e ≡ x)

numbered : (e : Evidence) → 0 < evidence_number e
numbered evidence.TrailerRowCount = omega arith
numbered (evidence.ExactSectors c d) = omega arith
numbered evidence.BlockAnchor = omega arith
numbered (evidence.ZeroMass z l) = omega arith
numbered evidence.Unallocated = omega arith

module _ (Holds : Evidence → Type 0) where
  pub up_none : UpTo Holds 0 empty
  up_none =
      record {
        only = λ i h. absurd (omega arith);
        every = λ e h s. absurd (omega (arith, numbered e));
        order = λ i j q h. absurd (omega arith);
        low = λ i h. absurd (omega arith);
        blank = λ i h. blanks i;
        room = refl;
        few = omega arith;
      }
    where
      blanks : (i : ℕ) → evidence_at empty i ≡ None
      blanks zero = refl
      blanks (suc zero) = refl
      blanks (suc (suc zero)) = refl
      blanks (suc (suc (suc zero))) = refl
      blanks (suc (suc (suc (suc i)))) = refl

  module _ (k : ℕ) (g : Grounds) (u : UpTo Holds k g) (x : Evidence) (kind : evidence_number x ≡ k + 1) where
    -- nothing of this kind holds
    up-not : ((e : Evidence) → evidence_number e ≡ k + 1 → Holds e → ⊥) → UpTo Holds (k + 1) g
    up-not never =
        record {
          only = u.only;
          every = λ e h s. go e h s (ℕ_discrete (evidence_number e) (k + 1));
          order = u.order;
          low = λ i h. omega (arith, u.low i h);
          blank = u.blank;
          room = u.room;
          few = omega (arith, u.few);
        }
      where
        go : (e : Evidence) → evidence_number e ≤ k + 1 → Holds e → Dec (evidence_number e ≡ k + 1) → InTable g e
        go e h s (yes q) = absurd (never e q s)
        go e h s (no ne) = u.every e (omega arith) s

    -- one piece more
    module _ (h : k < 4) (s : Holds x) (alone : (e : Evidence) → evidence_number e ≡ k + 1 → Holds e → e ≡ x) where
      abbrev more : Grounds
      more = record { items = set g.items g.len (Some x); len = g.len + 1 }

      old : (i : ℕ) → (i ≡ g.len → ⊥) → evidence_at more i ≡ evidence_at g i
      old i ne = get_or-set_other g.items g.len i (Some x) None ne

      new : (i : ℕ) → i ≡ g.len → evidence_at more i ≡ Some x
      new i e =
          ap (λ (j : ℕ). evidence_at more j) e
          ∙ get_or-set_same g.items g.len (Some x) None (omega (arith, u.room, u.few))

      up_more : UpTo Holds (k + 1) more
      up_more =
          record {
            only = λ i q. at i q (ℕ_discrete i g.len);
            every = λ e q r. has e q r (ℕ_discrete (evidence_number e) (k + 1));
            order = λ i j q r. two i j q r (ℕ_discrete j g.len);
            low = λ i q. below i q (ℕ_discrete i g.len);
            blank = λ i q. old i (λ e. omega arith) ∙ u.blank i (omega arith);
            room = length-set g.items g.len (Some x) ∙ u.room;
            few = omega (arith, u.few);
          }
        where
          at : (i : ℕ) → i < g.len + 1 → Dec (i ≡ g.len) → IsSomeAnd (evidence_at more i) Holds
          at i q (yes e) = subst (λ (o : Option Evidence). IsSomeAnd o Holds) (sym (new i e)) s
          at i q (no ne) = subst (λ (o : Option Evidence). IsSomeAnd o Holds) (sym (old i ne)) (u.only i (omega arith))

          below : (i : ℕ) → i < g.len + 1 → Dec (i ≡ g.len) → number_in (evidence_at more i) ≤ k + 1
          below i q (yes e) = omega (arith, ap number_in (new i e), kind)
          below i q (no ne) = omega (arith, ap number_in (old i ne), u.low i (omega arith))

          two : (i j : ℕ) → i < j → j < g.len + 1 → Dec (j ≡ g.len) → number_in (evidence_at more i) < number_in (evidence_at more j)
          two i j q r (yes e) =
              omega (arith, ap number_in (new j e), ap number_in (old i (λ f. omega arith)), u.low i (omega arith), kind)
          two i j q r (no ne) =
              omega (arith, ap number_in (old j ne), ap number_in (old i (λ f. omega arith)), u.order i j q (omega arith))

          has : (e : Evidence) → evidence_number e ≤ k + 1 → Holds e → Dec (evidence_number e ≡ k + 1) → InTable more e
          has e q r (yes f) = record { place = g.len; within = omega arith; is = new g.len refl ∙ ap Some (sym (alone e f r)) }
          has e q r (no ne) =
              let l : InTable g e = u.every e (omega arith) r in
              record { place = l.place; within = omega (arith, l.within); is = old l.place (λ f. omega (arith, l.within)) ∙ l.is }

    -- the next kind
    pub up_next : k < 4 → (test : Bool) → Kind Holds x test → UpTo Holds (k + 1) (with_if test g x)
    unfolding with_item
    up_next h true w =
        subst (UpTo Holds (k + 1)) (pick-gt _ _ 4 g.len (omega (arith, u.few)))
        (up_more h (w.so refl) (λ e q s. (w.alone e (q ∙ sym kind) s).1))
    up_next h false w = up-not (λ e q s. never_both refl (w.alone e (q ∙ sym kind) s).0)

  -- after the last kind that may hold
  pub up-all : (k : ℕ) (g : Grounds) → UpTo Holds k g → ((e : Evidence) → k < evidence_number e → Holds e → ⊥) → EvidenceTold Holds g
  up-all k g u never =
      record {
        only = u.only;
        every = λ e s. lt-cases (InTable g e) k (evidence_number e) (λ h. absurd (never e h s)) (λ h. u.every e h s);
        order = u.order;
        blank = u.blank;
        room = u.room;
      }
