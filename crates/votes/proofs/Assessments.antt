-- One value more among the candidates, and the assessment that they make. Assumes nothing.
use Prim.Native.Nat.{ℕ, ◌+◌, ◌<◌}
use mathlib.Core.Path.{◌≡◌, refl, sym, ap, ap₂, ◌∙◌}
use mathlib.Core.Bool.{Bool, true, false, ◌&&◌, ◌||◌}
use mathlib.Core.List.{List}
use borrow.Author.Tests.{eq-eqb, ne_eqb}
use lib.Dec.{ltb, leb}
use lib.ListN.{length}
use Rattle.lists.specs.Bytes.{byte_at}
use Rattle.lists.specs.Counts.{count, is_in}
use Rattle.lists.specs.Pieces.{among, fold}
use Rattle.lists.proofs.Among.{among-yes, among-no}
use Rattle.lists.proofs.Each.{each-length}
use Rattle.lists.proofs.Fold.{fold-last}
use Rattle.votes.specs.declared.Candidate.{Candidate}
use Rattle.votes.specs.declared.Candidates.{Candidates}
use Rattle.votes.specs.declared.Assessment.{Assessment}
use Rattle.votes.specs.declared.polls.Ballots.{Ballots}
use Rattle.votes.specs.declared.commonest.Leading.{Leading}
use Rattle.votes.specs.Votes.{counts_of, ballots, top_of, is_common, is_candidate, is_verified, candidate_of, candidates_below, no_candidates, with_candidate, tabled, assessment_of, no_assessment, assessed}
use Rattle.votes.specs.CountTables.{key_of, ballots_of, Leads, Assesses}

-- the tests of a value's count and votes
module _ (zeros votes v fourth : ℕ) where
  abbrev pub passes : Bool
  passes = ltb 0 votes || (ltb 0 zeros && leb fourth (key_of zeros v))

pub assesses-long : (shifted counts votes : List ℕ) (fourth : ℕ) → Assesses shifted counts votes fourth → (length counts ≡ 256) × (length votes ≡ 256)
unfolding counts_of
assesses-long shifted counts votes fourth a =
    (ap length a.counted ∙ each-length (λ v. count v shifted) 256, ap length a.voted ∙ each-length (λ v. count v (ballots shifted)) 256)

pub assesses-made :
    (shifted counts : List ℕ) (b : Ballots) (l : Leading)
    → counts ≡ counts_of shifted
    → b ≡ ballots_of shifted
    → Leads counts l
    → Assesses shifted counts b.votes l.fourth
unfolding ballots_of
assesses-made shifted counts b l ec eb t = record { counted = ec; voted = ap (λ (x : Ballots). x.votes) eb; ranked = t.fourth }

pub candidate-passes :
    (shifted counts votes : List ℕ) (fourth v : ℕ)
    → Assesses shifted counts votes fourth
    → v < 256
    → is_candidate (counts_of shifted) (counts_of (ballots shifted)) v ≡ passes (byte_at counts v) (byte_at votes v) v fourth
unfolding is_candidate is_common
candidate-passes shifted counts votes fourth v a h =
    ap₂ (λ (c t : List ℕ). is_candidate c t v) (sym a.counted) (sym a.voted)
    ∙ ap (λ (b : Bool). ltb 0 (byte_at votes v) || (ltb 0 (byte_at counts v) && b)) (a.ranked v h)

module _ (lim : ℕ) (shifted anchors : List ℕ) (n t : ℕ) where
  pub candidate-made :
      (counts votes : List ℕ) (fourth v : ℕ) (verified anchored : Bool)
      → Assesses shifted counts votes fourth
      → verified ≡ is_verified lim shifted n t v
      → anchored ≡ is_in v anchors
      → ◌≡◌ {A = Candidate} (record { bv = v; zeros = byte_at counts v; votes = byte_at votes v; verified = verified; anchored = anchored })
      (candidate_of lim shifted anchors n t v)
  unfolding candidate_of
  candidate-made counts votes fourth v verified anchored a p q = rw (p, q, a.counted, a.voted)

  -- the table of those below a bound
  abbrev pub table_below : ℕ → Candidates
  table_below v = tabled (candidates_below lim shifted anchors n t v)

  pub table_none : no_candidates ≡ table_below 0
  unfolding candidates_below tabled fold among
  table_none = refl

  pub table-no : (v : ℕ) → is_candidate (counts_of shifted) (counts_of (ballots shifted)) v ≡ false → table_below (v + 1) ≡ table_below v
  unfolding candidates_below
  table-no v h = ap tabled (among-no (is_candidate (counts_of shifted) (counts_of (ballots shifted))) (candidate_of lim shifted anchors n t) v h)

  pub table-yes :
      (v : ℕ)
      → is_candidate (counts_of shifted) (counts_of (ballots shifted)) v ≡ true
      → table_below (v + 1) ≡ with_candidate (table_below v) (candidate_of lim shifted anchors n t v)
  unfolding candidates_below tabled
  table-yes v h =
      ap tabled (among-yes (is_candidate (counts_of shifted) (counts_of (ballots shifted))) (candidate_of lim shifted anchors n t) v h)
      ∙ fold-last with_candidate no_candidates (candidates_below lim shifted anchors n t v) (candidate_of lim shifted anchors n t v)

  -- the assessment
  pub assessed-not : (length shifted ≡ 4080 → ⊥) → assessed lim shifted anchors n t ≡ no_assessment
  unfolding assessed
  assessed-not h = rw (ne_eqb (length shifted) 4080 h)

  pub assessed-is : length shifted ≡ 4080 → assessed lim shifted anchors n t ≡ assessment_of lim shifted anchors n t
  unfolding assessed
  assessed-is h = rw (eq-eqb (length shifted) 4080 h)

  pub assessment-made :
      (counts : List ℕ) (b : Ballots) (top : ℕ) (cs : Candidates)
      → counts ≡ counts_of shifted
      → b ≡ ballots_of shifted
      → top ≡ top_of counts
      → cs ≡ table_below 256
      → ◌≡◌ {A = Assessment} (record { candidates = cs; total = b.total; top = top }) (assessment_of lim shifted anchors n t)
  unfolding assessment_of ballots_of
  assessment-made counts b top cs ec eb et es = rw (es, et, ec, eb)
