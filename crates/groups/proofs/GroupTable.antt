-- The members of a group in a table of candidates. Assumes nothing.
use Prim.Native.Nat.{◌≤◌, min}
use mathlib.Core.Path.{◌≡◌, sym, subst}
use mathlib.Core.List.{List}
use native.Mathlib.Omega.{arith}
use lib.ListN.{length}
use Rattle.lists.proofs.Each.{each-length}
use Rattle.lists.proofs.Keep.{keep-le}
use Rattle.votes.specs.Votes.{tabled, candidate_at, listed}
use Rattle.votes.specs.declared.Candidate.{Candidate}
use Rattle.votes.specs.declared.Candidates.{Candidates}
use Rattle.votes.proofs.CandidateTable.{Holds, holds-listed, tabled-holds}
use Rattle.groups.specs.declared.Group.{Group}
use Rattle.groups.specs.Groups.{members, belongs, kept_of}

pub record Kept (g : Group) (t r : Candidates) : Type 0 where
  pub list : listed r ≡ members g (listed t)
  pub number : r.len ≡ length (members g (listed t))

module _ (g : Group) (t : Candidates) where
  pub kept-is : (r : Candidates) → r ≡ kept_of g t → Kept g t r
  unfolding kept_of
  kept-is r e =
      let l : List Candidate = members g (listed t) in
      let few : length l ≤ 8 = omega (arith, keep-le (belongs g) (listed t), each-length (candidate_at t) (min t.len 8)) in
      let h : Holds (tabled l) l = tabled-holds l few in
      subst (Kept g t) (sym e) (record { list = holds-listed (tabled l) l h few; number = h.number })
