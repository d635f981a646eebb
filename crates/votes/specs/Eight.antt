-- Request #107: what is proved of the candidates of any 4,080 bytes, whatever page, scan, summary or replacement they come from. Assumes nothing.
use Rattle.std.specs.Prelude.{ℕ, ◌≤◌, ◌<◌, ◌≡◌, List, map, length}
use Rattle.lists.specs.Counts.{how_many, is_in}
use Rattle.votes.specs.declared.Candidate.{Candidate}
use Rattle.votes.specs.declared.Candidates.{Candidates}
use Rattle.votes.specs.Votes.{counts_of, ballots, is_candidate, candidates_below, candidate_at, listed, assessment_of}

-- the values of candidates, in their order
abbrev pub bvs_in : List Candidate → List ℕ
bvs_in l = map (λ (c : Candidate). c.bv) l

-- a table has just the candidates, ascending, each once
pub record HasEach (shifted : List ℕ) (table : Candidates) : Type 0 where
  pub number : table.len ≡ how_many (is_candidate (counts_of shifted) (counts_of (ballots shifted))) 256
  pub within : (i : ℕ) → i < table.len → (candidate_at table i).bv < 256
  pub ascending : (i j : ℕ) → i < j → j < table.len → (candidate_at table i).bv < (candidate_at table j).bv
  pub just : (v : ℕ) → v < 256 → is_in v (bvs_in (listed table)) ≡ is_candidate (counts_of shifted) (counts_of (ballots shifted)) v

pub record AtMostEight : Type 0 where
  -- there are at most eight
  pub number : (lim : ℕ) (shifted anchors : List ℕ) (n t : ℕ) → length shifted ≡ 4080 → length (candidates_below lim shifted anchors n t 256) ≤ 8
  -- the table that the rules read holds them all, and none was turned away
  pub whole :
      (lim : ℕ) (shifted anchors : List ℕ) (n t : ℕ)
      → length shifted ≡ 4080
      → listed (assessment_of lim shifted anchors n t).candidates ≡ candidates_below lim shifted anchors n t 256
  pub each-once : (lim : ℕ) (shifted anchors : List ℕ) (n t : ℕ) → length shifted ≡ 4080 → HasEach shifted (assessment_of lim shifted anchors n t).candidates
