-- `each_block` meets its contract: block after block, and the end of input.
use Rattle.std.proofs.Common.{rules, arith}
use Rattle.std.proofs.lemmas.Result.{IfOk-weaker}
use Rattle.lines.proofs.Runs.{underway-none, underway-more, underway-end}
use Rattle.reporter.proofs.running.each_block.Goals as goal

pub loop-turn-init : goal.loop-turn-init
loop-turn-init g c = (omega arith, underway-none _ c.args.line.now)

pub returns-then-got-eq0 : goal.returns-then-got-eq0
returns-then-got-eq0 g c = IfOk-weaker c.end_input.result _ _ (λ x e. underway-end c.loop-turn.invariant.1 x e) c.end_input.ensures

pub loop-turn-preserved : goal.loop-turn-preserved
loop-turn-preserved g c = (search rules, underway-more c.loop-turn.invariant.1 c.in_ok-turn.ensures.block_answered)
