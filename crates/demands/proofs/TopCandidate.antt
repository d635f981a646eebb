-- The candidate of rule 4 has the top's value. Assumes nothing.
use Prim.Native.Nat.{ℕ, ◌≤◌, ◌<◌}
use mathlib.Core.Path.{◌≡◌, refl, sym, ap, subst}
use mathlib.Core.Bool.{Bool, true, false}
use mathlib.Core.List.{List, [], ◌∷◌}
use native.Mathlib.Omega.{arith}
use borrow.Author.Tests.{eqb-true, eq-eqb, ltb-true, ltb-false}
use lib.Dec.{eqb, ltb}
use lib.ListN.{length}
use Rattle.lists.specs.Bytes.{byte_at}
use Rattle.lists.specs.Cases.{pick}
use Rattle.lists.specs.Pieces.{keep}
use Rattle.lists.proofs.Booleans.{or_yes_right}
use Rattle.lists.proofs.Greatest.{greatest-above}
use Rattle.lists.proofs.Keep.{keep-among}
use Rattle.votes.specs.Votes.{counts_of, ballots, top_of, is_common, is_candidate, candidate_of, candidates_below, listed, assessment_of}
use Rattle.votes.specs.declared.Candidate.{Candidate}
use Rattle.votes.specs.declared.Assessment.{Assessment}
use Rattle.votes.proofs.Eight.{table-whole}
use Rattle.votes.proofs.Keys.{key_at, top-met}
use Rattle.votes.proofs.Meaning.{top_byte, top_common}
use Rattle.groups.specs.declared.Group.TheVariants.{Only}
use Rattle.groups.specs.Groups.{first_of, belongs}
use Rattle.choice.specs.Rules.{top_candidate}

-- the first of those with a value has it; the blank that stands for none has 0
module _ (v : ℕ) where
  abbrev only : List Candidate → List Candidate
  only l = keep (belongs (Only v)) l

  first-has : (l : List Candidate) → 0 < length (only l) → (first_of (only l)).bv ≡ v
  unfolding keep
  first-has [] h = absurd (omega arith)
  first-has (c ∷ l) h = go (eqb c.bv v) refl (first-has l) h
    where
      go :
          (b : Bool)
          → eqb c.bv v ≡ b
          → (0 < length (only l) → (first_of (only l)).bv ≡ v)
          → 0 < length (pick b (c ∷ only l) (only l))
          → (first_of (pick b (c ∷ only l) (only l))).bv ≡ v
      go true e ih h = eqb-true c.bv v e
      go false e ih h = ih h

  first-blank : (l : List Candidate) → v ≡ 0 → (first_of (only l)).bv ≡ v
  unfolding keep
  first-blank [] z = sym z
  first-blank (c ∷ l) z = go (eqb c.bv v) refl (first-blank l z)
    where
      go : (b : Bool) → eqb c.bv v ≡ b → (first_of (only l)).bv ≡ v → (first_of (pick b (c ∷ only l) (only l))).bv ≡ v
      go true e ih = eqb-true c.bv v e
      go false e ih = ih

-- where no value occurs, the top is 0
top-nothing : (counts : List ℕ) → byte_at counts (top_of counts) ≤ 0 → top_of counts ≡ 0
top-nothing counts n =
    top-met counts (top_of counts ≡ 0) (λ k h q e. omega (arith, ap (byte_at counts) e, greatest-above (key_at counts) 256 0 (omega arith)))

module _ (lim : ℕ) (shifted anchors : List ℕ) (n t : ℕ) where
  abbrev a : Assessment
  a = assessment_of lim shifted anchors n t

  abbrev counts : List ℕ
  counts = counts_of shifted

  top-is : ltb 0 (byte_at counts (top_of counts)) ≡ true → is_candidate counts (counts_of (ballots shifted)) (top_of counts) ≡ true
  unfolding is_candidate
  top-is e =
      or_yes_right (ltb 0 (byte_at (counts_of (ballots shifted)) (top_of counts))) (is_common counts (top_of counts))
      (top_common counts (top_of counts) (top_byte counts) (ltb-true 0 (byte_at counts (top_of counts)) e))

  top-has : (candidate_of lim shifted anchors n t (top_of counts)).bv ≡ top_of counts
  unfolding candidate_of
  top-has = refl

  pub top-bv : length shifted ≡ 4080 → (top_candidate a).bv ≡ top_of counts
  unfolding assessment_of candidates_below
  top-bv long = go (ltb 0 (byte_at counts (top_of counts))) refl
    where
      all : listed a.candidates ≡ candidates_below lim shifted anchors n t 256
      all = table-whole shifted long lim anchors n t

      go : (b : Bool) → ltb 0 (byte_at counts (top_of counts)) ≡ b → (top_candidate a).bv ≡ top_of counts
      go true e =
          first-has (top_of counts) (listed a.candidates)
          (subst (λ (l : List Candidate). 0 < length (only (top_of counts) l)) (sym all)
          (keep-among (is_candidate counts (counts_of (ballots shifted))) (candidate_of lim shifted anchors n t) (belongs (Only (top_of counts))) 256 (top_of counts)
          (top_byte counts) (top-is e) (eq-eqb _ (top_of counts) top-has)))
      go false e = first-blank (top_of counts) (listed a.candidates) (top-nothing counts (ltb-false 0 (byte_at counts (top_of counts)) e))
