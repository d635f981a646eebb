-- The steps that `step` has done so far.
use Rattle.std.proofs.Common.{◌-◌, length}
use Rattle.lines.proofs.Stepping.{Stepping}
use Rattle.reply.specs.Reply.{reply_of}
use Rattle.reporter.proofs.blocks.step.Given as goal

abbrev pub invariant-loop-at : goal.invariant-loop-at
invariant-loop-at l = Stepping reply_of l.initial.line l.kept l.block l.from l.initial.out l.line l.len l.out l.waiting l.at

abbrev pub decreases-loop-at : goal.decreases-loop-at
decreases-loop-at l = length l.block - l.at
