-- The groups of candidates as values of bv: which values a group has, in words of the page. Assumes nothing.
use Prim.Native.Nat.{ℕ, ◌<◌}
use mathlib.Core.Path.{◌≡◌, refl, ap, ◌∙◌}
use mathlib.Core.Bool.{Bool, not, ◌&&◌, ◌||◌}
use mathlib.Core.List.{List}
use lib.Dec.{eqb, ltb, leb}
use lib.ListN.{length}
use Rattle.lists.specs.Bytes.{AllBytes}
use Rattle.lists.specs.Counts.{is_in}
use Rattle.lists.specs.Pieces.{among, keep}
use Rattle.votes.specs.Votes.{counts_of, ballots, top_of, is_candidate, is_verified, candidate_of, candidates_below, assessment_of}
use Rattle.votes.specs.declared.Candidate.{Candidate}
use Rattle.votes.specs.declared.Assessment.{Assessment}
use Rattle.votes.proofs.Eight.{table-whole}
use Rattle.groups.specs.declared.Group.{Group}
use Rattle.groups.specs.declared.Group.TheVariants.{Voted, Rivals, Contest, Supported}
use Rattle.groups.specs.Groups.{belongs, group, is_rival, has_support, outranks}
use Rattle.meanings.specs.Values.{votes_for, stands_for}
use Rattle.meanings.specs.Sources.{is_strong, comes_before}
use Rattle.meanings.proofs.Values.{ballots-at, zeros-at}
use Rattle.meanings.proofs.Passing.{kept-among, among-ext}

module _ (lim : ℕ) (shifted anchors : List ℕ) (n t : ℕ) where
  abbrev pub made : ℕ → Candidate
  made v = candidate_of lim shifted anchors n t v

  abbrev pub assessment : Assessment
  assessment = assessment_of lim shifted anchors n t

  -- ---- a group as values

  module _ (long : length shifted ≡ 4080) where
    pub group-values : (g : Group) → group g assessment ≡ among (λ v. stands_for shifted v && belongs g (made v)) made 256
    unfolding candidates_below stands_for
    group-values g =
        ap (keep (belongs g)) (table-whole shifted long lim anchors n t) ∙ kept-among made (is_candidate (counts_of shifted) (counts_of (ballots shifted))) (belongs g) 256

    pub group-as :
        (g : Group) (p : ℕ → Bool)
        → ((v : ℕ) → v < 256 → (stands_for shifted v && belongs g (made v)) ≡ p v)
        → group g assessment ≡ among p made 256
    group-as g p h = group-values g ∙ among-ext made (λ v. stands_for shifted v && belongs g (made v)) p 256 h

  -- ---- what a group asks of a value

  module _ (v : ℕ) where
    pub made-bv : (made v).bv ≡ v
    unfolding candidate_of
    made-bv = refl

    pub made-verified : (made v).verified ≡ is_verified lim shifted n t v
    unfolding candidate_of
    made-verified = refl

    module _ (h : v < 256) where
      pub made-votes : (made v).votes ≡ votes_for shifted v
      unfolding candidate_of
      made-votes = ballots-at shifted v h

      pub made-voted : belongs Voted (made v) ≡ ltb 0 (votes_for shifted v)
      made-voted = ap (ltb 0) made-votes

      pub made-rival : (bv : ℕ) → belongs (Rivals bv assessment.top) (made v) ≡ (not (eqb v bv) && is_strong shifted anchors v)
      unfolding is_rival is_strong candidate_of assessment_of
      made-rival bv =
          ap (λ (k : ℕ). not (eqb v bv) && (leb 2 k || (is_in v anchors && eqb v (top_of (counts_of shifted))))) (ballots-at shifted v h)

      pub made-contest : (bv : ℕ) → belongs (Contest bv assessment.top) (made v) ≡ (eqb v bv || (not (eqb v bv) && is_strong shifted anchors v))
      unfolding candidate_of
      made-contest bv = ap (λ (b : Bool). eqb v bv || b) (made-rival bv)

      pub made-supported : (bv : ℕ) → belongs (Supported bv) (made v) ≡ (not (eqb v bv) && (ltb 0 (votes_for shifted v) || is_in v anchors))
      unfolding has_support candidate_of
      made-supported bv = ap (λ (k : ℕ). not (eqb v bv) && (ltb 0 k || is_in v anchors)) (ballots-at shifted v h)

  pub made-outranks : (v w : ℕ) → v < 256 → w < 256 → AllBytes shifted → outranks (made v) (made w) ≡ comes_before lim shifted anchors n t v w
  unfolding outranks comes_before candidate_of
  made-outranks v w h k b = rw (ballots-at shifted v h, ballots-at shifted w k, zeros-at shifted v h b, zeros-at shifted w k b)
