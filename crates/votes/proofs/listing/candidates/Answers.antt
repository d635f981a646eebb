-- Value after value the table holds the candidates below it.
use borrow.Author.Rules.{rules}
use native.Mathlib.Omega.{arith}
use mathlib.Core.Path.{sym, ap, ap₂, ◌∙◌}
use Rattle.votes.specs.Votes.{with_candidate}
use Rattle.votes.proofs.Assessments.{assesses-long, candidate-passes, candidate-made, table_below, table_none, table-no, table-yes}
use Rattle.votes.proofs.Tests.{any-in}
use Rattle.votes.proofs.listing.candidates.Goals as goal
use Rattle.votes.proofs.listing.candidates.Goals.{then-is_candidate, else-is_candidate}

pub loop-v-init : goal.loop-v-init
loop-v-init c = c.none-found.ensures ∙ table_none _ _ _ _ _

pub bounds-counts-v : goal.bounds-counts-v
bounds-counts-v c = omega (arith, (assesses-long _ _ _ _ c.requires).0)

pub bounds-votes-v : goal.bounds-votes-v
bounds-votes-v c = omega (arith, (assesses-long _ _ _ _ c.requires).1)

pub loop-v-preserved : goal.loop-v-preserved
loop-v-preserved c =
    let l = c.loop-v in
    let a = c.args in
    let p = candidate-passes _ _ _ _ l.v c.requires (search rules) in
    elim c.if-is_candidate.branch [
      | then-is_candidate w ↦
          w.found-is
          ∙ w.with-found.ensures
          ∙ ap₂ with_candidate l.invariant (candidate-made a.limit a.shifted.now a.anchors.now a.n a.t _ _ _ l.v _ _ c.requires w.is_verified-verified.ensures
          (w.contains-anchored.ensures.value ∙ any-in l.v a.anchors.now))
          ∙ sym (table-yes _ _ _ _ _ l.v (p ∙ sym c.is_candidate.ensures ∙ w.if-is_candidate.true))
      | else-is_candidate w ↦ w.found-is ∙ l.invariant ∙ sym (table-no _ _ _ _ _ l.v (p ∙ sym c.is_candidate.ensures ∙ w.if-is_candidate.false))
    ]

pub returns : goal.returns
returns c =
    let l = c.loop-v in
    let a = c.args in
    l.invariant ∙ ap (table_below a.limit a.shifted.now a.anchors.now a.n a.t) (omega arith)
