-- `capped_counts` meets its contract: after m countings the table has the counts of all steps that are below m modulo 16.
use mathlib.Core.Path.{ap, ◌∙◌}
use native.Mathlib.Omega.{arith}
use borrow.Author.Rules.{rules}
use lib.ListN.{length}
use Rattle.lists.proofs.Each.{each-length}
use Rattle.rings.proofs.Rooms.{tallied-room, doubled-room}
use Rattle.classes.proofs.Steps.{known_more, known-all}
use Rattle.classes.proofs.Engine.{engine-from}
use Rattle.classes.proofs.counts.capped_counts.Goals as goal

pub loop-m-preserved : goal.loop-m-preserved
loop-m-preserved c =
    let l = c.loop-m in
    let a = c.args in
    let sixteen = c.tally.ensures ∙ tallied-room _ l.invariant.0 a.stored.now a.offset _ in
    let twice = c.double.ensures ∙ doubled-room _ l.invariant.1 _ in (
      ap length sixteen ∙ each-length _ 4096,
      ap length twice ∙ each-length _ 4096,
      c.count_eight-in-loop-m.ensures.eight_len,
      known_more _ _ _ l.m _ _ _ (search rules) l.invariant.3 c.count_eight.ensures.fills
          (λ k h e. engine-from a.offset a.stored.now k _ _ _ _ sixteen twice (omega arith) (omega arith)) c.count_eight-in-loop-m.ensures.fills
          (λ k h e. engine-from a.offset a.stored.now k _ _ _ _ sixteen twice (omega arith) (omega arith)),
    )

pub returns : goal.returns
returns c = known-all _ c.loop-m.m _ (omega arith) c.loop-m.invariant.3
