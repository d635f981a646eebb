-- Document 01, "Choosing bv": the groups of candidates that the rules speak of, and the rank within a group. Assumes nothing.
use Rattle.std.specs.Prelude.{ℕ, max, Bool, not, ◌&&◌, ◌||◌, List, eqb, ltb, leb, get_or}
use Rattle.lists.specs.Cases.{pick, flag}
use Rattle.lists.specs.Pieces.{keep, fold}
use Rattle.answers.specs.Answers.{Bvs}
use Rattle.answers.specs.Tables.{empty, with_item}
use Rattle.votes.specs.Votes.{blank_candidate, tabled, listed}
use Rattle.votes.specs.declared.Candidate.{Candidate}
use Rattle.votes.specs.declared.Candidates.{Candidates}
use Rattle.votes.specs.declared.Assessment.{Assessment}
use Rattle.groups.specs.declared.Group.{Group}
use Rattle.groups.specs.declared.Group.TheVariants.{Verified, Voted, Only, Others, Rivals, Contest, Supported}

-- the first of a list of candidates
abbrev pub first_of : List Candidate → Candidate
first_of l = get_or l 0 blank_candidate

-- "its rivals are other candidates with two or more votes, or anchored and top"
unfoldable pub is_rival : ℕ → ℕ → Candidate → Bool
is_rival bv top c = not (eqb c.bv bv) && (leb 2 c.votes || (c.anchored && eqb c.bv top))

-- "other candidate voted or anchored"
unfoldable pub has_support : ℕ → Candidate → Bool
has_support bv c = not (eqb c.bv bv) && (ltb 0 c.votes || c.anchored)

-- which candidates a group has
abbrev pub belongs : Group → Candidate → Bool
belongs Verified c = c.verified
belongs Voted c = ltb 0 c.votes
belongs (Only bv) c = eqb c.bv bv
belongs (Others bv) c = not (eqb c.bv bv)
belongs (Rivals bv top) c = is_rival bv top c
belongs (Contest bv top) c = eqb c.bv bv || is_rival bv top c
belongs (Supported bv) c = has_support bv c

abbrev pub members : Group → List Candidate → List Candidate
members g l = keep (belongs g) l

abbrev pub group : Group → Assessment → List Candidate
group g a = members g (listed a.candidates)

-- a table of the members alone
unfoldable pub kept_of : Group → Candidates → Candidates
kept_of g t = tabled (members g (listed t))

-- "the greatest by votes, verified, anchored, count, and then the smallest bv": the greater number decides, and `rest` between equal ones
abbrev pub above : ℕ → ℕ → Bool → Bool
above x y rest = pick (eqb x y) rest (ltb y x)

unfoldable pub outranks : Candidate → Candidate → Bool
outranks a b =
    above a.votes b.votes
    (above (flag a.verified) (flag b.verified)
    (above (flag a.anchored) (flag b.anchored)
    (above a.zeros b.zeros (ltb a.bv b.bv))))

unfoldable pub higher : Candidate → Candidate → Candidate
higher best c = pick (outranks c best) c best

-- its meaning is `meanings/Ranking.highest-passes`: a member that comes before every other
unfoldable pub highest_of : List Candidate → Candidate
highest_of l = fold higher (first_of l) l

-- the greatest count of a group, 0 where it is empty; its meaning is `meanings/Evidence.Leads`
abbrev pub or_zeros : ℕ → Candidate → ℕ
or_zeros m c = max m c.zeros

unfoldable pub most_of : List Candidate → ℕ
most_of l = fold or_zeros 0 l

-- the values of bv of a group, in its order; its meaning is `meanings/BvTable.group-lists`
abbrev pub and_bv : Bvs → Candidate → Bvs
and_bv t c = with_item t c.bv

unfoldable pub bvs_of : List Candidate → Bvs
bvs_of l = fold and_bv empty l
