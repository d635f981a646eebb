-- `answer_block` meets its contract: the steps of the block, one after the other, and each one's output written and counted.
use Rattle.std.proofs.Common.{◌≡◌, length, take, rules}
use lib.Seq.{length-take-le}
use Rattle.lines.proofs.Runs.{passing-none, passing_step, passed-all}
use Rattle.reporter.proofs.running.answer_block.Goals as goal

pub loop-from-init : goal.loop-from-init
loop-from-init g c = passing-none _ _ _ _ _ _ (search rules)

pub loop-from-preserved : goal.loop-from-preserved
loop-from-preserved g c =
    let s = c.step-s in
    let n : length (take s.result.waiting s.new.out) ≡ s.result.waiting = length-take-le _ _ s.ensures.fits in
    passing_step _ _ _ _ _ _ _ _ _ _ _ c.loop-from.invariant _ _ s.result _ s.auto.line s.auto.out (search rules) s.ensures

pub returns-clause-block_answered : goal.returns-clause-block_answered
returns-clause-block_answered g c = passed-all _ _ _ _ _ _ _ _ _ _ _ c.loop-from.invariant (search rules)
