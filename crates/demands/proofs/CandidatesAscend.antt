-- The candidates that stand beside answer 5 ascend. Assumes nothing.
use Prim.Native.Nat.{ℕ, ◌≤◌}
use mathlib.Core.Path.{◌≡◌, sym, subst}
use mathlib.Core.Bool.{Bool, ◌&&◌}
use mathlib.Core.List.{List}
use native.Mathlib.Omega.{arith}
use lib.ListN.{length}
use Rattle.lists.specs.Counts.{how_many}
use Rattle.lists.proofs.Booleans.{and_left}
use Rattle.lists.proofs.Many.{many-weaker}
use Rattle.votes.specs.Votes.{assessment_of}
use Rattle.votes.specs.declared.Candidate.{Candidate}
use Rattle.votes.proofs.Eight.{few-candidates}
use Rattle.groups.specs.declared.Group.{Group}
use Rattle.groups.specs.Groups.{belongs, group, bvs_of}
use Rattle.meanings.specs.Values.{stands_for}
use Rattle.meanings.proofs.Standing.{made, group-values}
use Rattle.meanings.proofs.BvTable.{group-lists}
use Rattle.demands.specs.Demand1.{Ascending}

module _ (lim : ℕ) (shifted anchors : List ℕ) (n t : ℕ) (g : Group) (long : length shifted ≡ 4080) where
  abbrev in_group : ℕ → Bool
  in_group v = stands_for shifted v && belongs g (made lim shifted anchors n t v)

  few : how_many in_group 256 ≤ 8
  unfolding stands_for
  few =
      omega (
        arith,
        many-weaker in_group (stands_for shifted) 256 (λ v h e. and_left (stands_for shifted v) (belongs g (made lim shifted anchors n t v)) e),
        few-candidates shifted long,
      )

  pub group-ascends : Ascending (bvs_of (group g (assessment_of lim shifted anchors n t)))
  group-ascends =
      subst (λ (l : List Candidate). Ascending (bvs_of l)) (sym (group-values lim shifted anchors n t long g))
      (let lists = group-lists lim shifted anchors n t in_group few in record { held = lists.held; rising = lists.ascending })
