-- Document 01, "Choosing bv": the candidates for bv, and what speaks for each. n is the stored row count, t the
-- least row count that is tested, lim the limit of the slot search. Assumes nothing.
use Rattle.std.specs.Prelude.{ℕ, ◌+◌, ◌*◌, min, Bool, false, ◌&&◌, ◌||◌, List, eqb, ltb, leb, length, get_or, set, replicate}
use Rattle.lists.specs.Cases.{pick}
use Rattle.lists.specs.Bytes.{byte_at, plain_of}
use Rattle.lists.specs.Counts.{count, how_many, all_same, is_in}
use Rattle.lists.specs.Pieces.{each, among, fold}
use Rattle.sector.specs.Fit.{top_place}
use Rattle.summary.specs.Page.{part}
use Rattle.slots.specs.Slots.{row_count_matches}
use Rattle.votes.specs.declared.Candidate.{Candidate}
use Rattle.votes.specs.declared.Candidates.{Candidates}
use Rattle.votes.specs.declared.Assessment.{Assessment}
use Rattle.votes.specs.declared.polls.Poll.{Poll}

-- "Count every shifted value over the page": a table of 256 counts
unfoldable pub counts_of : List ℕ → List ℕ
counts_of l = each (λ v. count v l) 256

-- "An exact sector votes for its shifted value": the votes, in the sectors' order
unfoldable pub ballots : List ℕ → List ℕ
ballots shifted = among (λ s. all_same (part s shifted)) (λ s. byte_at shifted (s * 512)) 8

-- w is commoner than v: it has the greater count, or the same count and is smaller
unfoldable pub beats : List ℕ → ℕ → ℕ → Bool
beats counts w v = pick (eqb (byte_at counts w) (byte_at counts v)) (ltb w v) (ltb (byte_at counts v) (byte_at counts w))

-- "Top is the commonest"
unfoldable pub top_of : List ℕ → ℕ
top_of counts = top_place (byte_at counts) 256

-- "the four commonest values that occur (all, if fewer do), equal counts in ascending order": fewer than four values beat it
unfoldable pub is_common : List ℕ → ℕ → Bool
is_common counts v = ltb 0 (byte_at counts v) && ltb (how_many (λ w. beats counts w v) 256) 4

-- "all voted values and the four commonest"
unfoldable pub is_candidate : List ℕ → List ℕ → ℕ → Bool
is_candidate counts votes v = ltb 0 (byte_at votes v) || is_common counts v

-- "verified if the stored row count isn't 0 and its plaintext passes the row-count test"
unfoldable pub is_verified : ℕ → List ℕ → ℕ → ℕ → ℕ → Bool
is_verified lim shifted n t bv = ltb 0 n && row_count_matches lim (plain_of bv shifted) n t

-- a value with its count, its votes, and whether it is verified and anchored ("in the anchor list")
unfoldable pub candidate_of : ℕ → List ℕ → List ℕ → ℕ → ℕ → ℕ → Candidate
candidate_of lim shifted anchors n t v =
    record {
      bv = v;
      zeros = byte_at (counts_of shifted) v;
      votes = byte_at (counts_of (ballots shifted)) v;
      verified = is_verified lim shifted n t v;
      anchored = is_in v anchors;
    }

-- the candidates below a bound, "ascending"
unfoldable pub candidates_below : ℕ → List ℕ → List ℕ → ℕ → ℕ → ℕ → List Candidate
candidates_below lim shifted anchors n t bound = among (is_candidate (counts_of shifted) (counts_of (ballots shifted))) (candidate_of lim shifted anchors n t) bound

-- the table of candidates has eight places; a full one stays as it is, and `Eight.AtMostEight` says that no candidate is ever turned away
abbrev pub places : ℕ
places = 8

abbrev pub blank_candidate : Candidate
blank_candidate = record { bv = 0; zeros = 0; votes = 0; verified = false; anchored = false }

abbrev pub no_candidates : Candidates
no_candidates = record { items = replicate 8 blank_candidate; len = 0 }

unfoldable pub with_candidate : Candidates → Candidate → Candidates
with_candidate t c = pick (leb places t.len) t (record { items = set t.items t.len c; len = t.len + 1 })

unfoldable pub tabled : List Candidate → Candidates
tabled l = fold with_candidate no_candidates l

-- and the candidates of a table, as a list
abbrev pub candidate_at : Candidates → ℕ → Candidate
candidate_at t i = get_or t.items i blank_candidate

abbrev pub listed : Candidates → List Candidate
listed t = each (candidate_at t) (min t.len places)

-- what the rules go by: the candidates, the number of votes, and the top
unfoldable pub assessment_of : ℕ → List ℕ → List ℕ → ℕ → ℕ → Assessment
assessment_of lim shifted anchors n t =
    record {
      candidates = tabled (candidates_below lim shifted anchors n t 256);
      total = length (ballots shifted);
      top = top_of (counts_of shifted);
    }

-- shifted bytes that are not 4,080 have no candidates
abbrev pub no_assessment : Assessment
no_assessment = record { candidates = no_candidates; total = 0; top = 0 }

unfoldable pub assessed : ℕ → List ℕ → List ℕ → ℕ → ℕ → Assessment
assessed lim shifted anchors n t = pick (eqb (length shifted) 4080) (assessment_of lim shifted anchors n t) no_assessment

-- the votes for one value, and all votes
unfoldable pub poll_of : List ℕ → ℕ → Poll
poll_of shifted bv =
    pick (eqb (length shifted) 4080) (record { votes = count bv (ballots shifted); total = length (ballots shifted) }) (record { votes = 0; total = 0 })
