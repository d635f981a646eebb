-- The steps of the block, one after the other, and each one's output written and counted.
use Rattle.std.proofs.Common.{◌-◌, length}
use Rattle.lines.proofs.Runs.{Passing}
use Rattle.reply.specs.Reply.{reply_of}
use Rattle.reporter.proofs.running.answer_block.Given as goal

abbrev pub invariant-loop-from : goal.invariant-loop-from
invariant-loop-from g l = Passing reply_of l.initial.line l.fn.kept l.block l.initial.out l.fn.before l.line l.turn.kept l.out l.from l.turn.sent

abbrev pub decreases-loop-from : goal.decreases-loop-from
decreases-loop-from g l = length l.block - l.from
