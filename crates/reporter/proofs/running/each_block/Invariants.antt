-- Block after block: a run from here on makes a run of the whole.
use Rattle.std.proofs.Common.{◌≤◌, length, take}
use Rattle.lines.proofs.Runs.{Underway}
use Rattle.reply.specs.Reply.{reply_of}
use Rattle.reporter.proofs.running.each_block.Given as goal

abbrev pub invariant-loop-turn : goal.invariant-loop-turn
invariant-loop-turn g l = (l.kept ≤ length l.line) × Underway reply_of (take l.kept l.line) l.sent
