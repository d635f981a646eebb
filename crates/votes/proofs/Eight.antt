-- Request #107: no 4,080 bytes have more than eight candidates, so that the table of eight holds them all. A voted value fills a sector, so it has 496
-- bytes or more. With three voted values or fewer there are at most those and the four commonest. With four or more, each of the four commonest is at
-- least as common as one of them, so that every candidate has 496 bytes or more; and nine would need 4,464. Assumes nothing.
use Prim.Native.Nat.{ℕ, ◌-◌, ◌*◌, ◌≤◌, ◌<◌, min}
use mathlib.Core.Path.{◌≡◌, sym, ap, ◌∙◌, subst}
use mathlib.Core.Bool.{Bool, true, false}
use mathlib.Core.List.{List}
use native.Mathlib.Nat.{add-zero}
use native.Mathlib.Omega.{arith}
use borrow.Author.Tests.{lt-ltb, ltb-true, ltb-false}
use lib.Dec.{ltb}
use lib.ListN.{length, length-map, get_or-map}
use Rattle.lists.specs.Bytes.{byte_at}
use Rattle.lists.specs.Counts.{count, how_many, all_same, is_in}
use Rattle.lists.proofs.Among.{among-length, among-met}
use Rattle.lists.proofs.Booleans.{and_right, or_case}
use Rattle.lists.proofs.Count.{count-part}
use Rattle.lists.proofs.Each.{each_at}
use Rattle.lists.proofs.Leading.{few-lead}
use Rattle.lists.proofs.Many.{many-weaker, many-either, many-beyond}
use Rattle.lists.proofs.Same.{same_count}
use Rattle.lists.proofs.Sums.{sum-many, sum-counts}
use Rattle.summary.specs.Page.{part, sector_end}
use Rattle.summary.proofs.Parts.{part_length, part_at}
use Rattle.votes.specs.declared.Candidate.{Candidate}
use Rattle.votes.specs.declared.Candidates.{Candidates}
use Rattle.votes.specs.Votes.{counts_of, ballots, beats, is_common, is_candidate, candidate_of, candidates_below, places, blank_candidate, candidate_at, listed, assessment_of}
use Rattle.votes.specs.Eight.{bvs_in, HasEach, AtMostEight}
use Rattle.votes.proofs.Tests.{lt-cases}
use Rattle.votes.proofs.Keys.{key_at, beats-key, many-beat}
use Rattle.votes.proofs.CandidateTable.{Holds, holds-listed, tabled-holds}
use Rattle.votes.proofs.Meaning.{Rises, candidates-rise, candidates-just, counts-at}

-- ---- the commonest values

module _ (counts : List ℕ) where
  few-before : (v : ℕ) → is_common counts v ≡ true → how_many (λ w. beats counts w v) 256 < 4
  unfolding is_common
  few-before v e = ltb-true (how_many (λ w. beats counts w v) 256) 4 (and_right (ltb 0 (byte_at counts v)) _ e)

  -- no more than four are among the four commonest
  common-four : how_many (is_common counts) 256 ≤ 4
  common-four =
      omega (
        arith,
        many-weaker (is_common counts) (λ v. ltb (how_many (λ w. ltb (key_at counts v) (key_at counts w)) 256) 4) 256
            (λ v h e. lt-ltb (how_many (λ w. ltb (key_at counts v) (key_at counts w)) 256) 4 (omega (arith, few-before v e, many-beat counts v h))),
        few-lead (key_at counts) 256 4 (λ u v h k e. omega arith),
      )

  -- a value that does not beat another is no commoner
  no-commoner : (w v : ℕ) → w < 256 → v < 256 → beats counts w v ≡ false → byte_at counts w ≤ byte_at counts v
  no-commoner w v h k e =
      let below : key_at counts w ≤ key_at counts v = ltb-false (key_at counts v) (key_at counts w) (sym (beats-key counts w v h k) ∙ e) in
      omega arith

-- ---- the theorem

module _ (shifted : List ℕ) (long : length shifted ≡ 4080) where
  abbrev counts : List ℕ
  counts = counts_of shifted

  abbrev votes : List ℕ
  votes = counts_of (ballots shifted)

  abbrev is_voted : ℕ → Bool
  is_voted v = ltb 0 (byte_at votes v)

  -- an exact sector is filled by its value
  sector-filled : (s : ℕ) → s < 8 → all_same (part s shifted) ≡ true → 496 ≤ count (byte_at shifted (s * 512)) shifted
  unfolding part
  sector-filled s h e =
      let size : length (part s shifted) ≡ sector_end s - s * 512 = part_length shifted s (omega arith) in
      let first : byte_at (part s shifted) 0 ≡ byte_at shifted (s * 512) = part_at shifted s 0 (omega arith) ∙ ap (byte_at shifted) (add-zero (s * 512)) in
      omega (
        arith,
        same_count (part s shifted) (omega arith) e,
        ap (λ (v : ℕ). count v (part s shifted)) first,
        count-part (byte_at shifted (s * 512)) shifted (s * 512) (sector_end s - s * 512),
      )

  voted-fills : (v : ℕ) → v < 256 → is_voted v ≡ true → 496 ≤ count v shifted
  unfolding ballots
  voted-fills v h e =
      among-met (λ s. all_same (part s shifted)) (λ s. byte_at shifted (s * 512)) v (496 ≤ count v shifted) 8
      (omega (arith, ltb-true 0 (byte_at votes v) e, counts-at (ballots shifted) v h))
      (λ s k x q. subst (λ (w : ℕ). 496 ≤ count w shifted) q (sector-filled s k x))

  -- where four or more are voted for, one of them does not beat a common value, which is then at least as common
  common-fills : 4 ≤ how_many is_voted 256 → (v : ℕ) → v < 256 → is_common counts v ≡ true → 496 ≤ count v shifted
  common-fills four v h e =
      many-beyond is_voted (λ w. beats counts w v) (496 ≤ count v shifted) 256 (omega (arith, few-before counts v e))
      (λ w k q r.
      omega (arith, no-commoner counts w v k h r, voted-fills w k q, counts-at shifted w k, counts-at shifted v h))

  candidate-fills : 4 ≤ how_many is_voted 256 → (v : ℕ) → v < 256 → is_candidate counts votes v ≡ true → 496 ≤ count v shifted
  unfolding is_candidate
  candidate-fills four v h e = or_case (496 ≤ count v shifted) (is_voted v) (is_common counts v) e (voted-fills v h) (common-fills four v h)

  pub few-candidates : how_many (is_candidate counts votes) 256 ≤ 8
  unfolding is_candidate
  few-candidates =
      lt-cases (how_many (is_candidate counts votes) 256 ≤ 8) (how_many is_voted 256) 4
      (λ l. omega (arith, many-either is_voted (is_common counts) 256, common-four counts))
      (λ l. omega (arith, sum-many 496 (is_candidate counts votes) (λ v. count v shifted) 256 (candidate-fills l), sum-counts shifted 256))

  module _ (lim : ℕ) (anchors : List ℕ) (n t : ℕ) where
    abbrev all : List Candidate
    all = candidates_below lim shifted anchors n t 256

    abbrev table : Candidates
    table = (assessment_of lim shifted anchors n t).candidates

    all-number : length all ≡ how_many (is_candidate counts votes) 256
    unfolding candidates_below
    all-number = among-length (is_candidate counts votes) (candidate_of lim shifted anchors n t) 256

    number : length all ≤ 8
    number = omega (arith, all-number, few-candidates)

    -- ---- the table holds them

    held : Holds table all
    unfolding assessment_of
    held = tabled-holds all number

    pub table-whole : listed table ≡ all
    table-whole = holds-listed table all held number

    size : length (bvs_in (listed table)) ≡ table.len
    size = length-map (listed table) (λ (c : Candidate). c.bv) ∙ ap length table-whole ∙ sym held.number

    bv-at : (i : ℕ) → i < table.len → byte_at (bvs_in (listed table)) i ≡ (candidate_at table i).bv
    bv-at i h =
        get_or-map (λ (c : Candidate). c.bv) (listed table) i blank_candidate
        ∙ ap (λ (c : Candidate). c.bv) (each_at (candidate_at table) (min table.len places) i blank_candidate (omega (arith, held.number, number)))

    rises : Rises 256 (bvs_in (listed table))
    rises = subst (λ (l : List Candidate). Rises 256 (bvs_in l)) (sym table-whole) (candidates-rise lim shifted anchors n t 256)

    each-once : HasEach shifted table
    each-once =
        record {
          number = held.number ∙ all-number;
          within = λ i h. omega (arith, bv-at i h, rises.within i (omega (arith, size)));
          ascending = λ i j q h. omega (arith, bv-at i (omega arith), bv-at j h, rises.strictly i j q (omega (arith, size)));
          just = λ v h. ap (λ (l : List Candidate). is_in v (bvs_in l)) table-whole ∙ candidates-just lim shifted anchors n t 256 v h;
        }

-- THERE ARE AT MOST EIGHT CANDIDATES, and the table that the rules read holds them all
pub at-most-eight : AtMostEight
at-most-eight =
    record {
      number = λ lim shifted anchors n t long. number shifted long lim anchors n t;
      whole = λ lim shifted anchors n t long. table-whole shifted long lim anchors n t;
      each-once = λ lim shifted anchors n t long. each-once shifted long lim anchors n t;
    }
