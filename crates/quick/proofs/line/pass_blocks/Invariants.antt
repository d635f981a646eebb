-- `pass_blocks` meets its contract: the first k blocks are on the line.
use Rattle.std.proofs.Common.{◌*◌}
use Rattle.quick.specs.Line.{OnLine}
use Rattle.quick.proofs.line.pass_blocks.Given as goal

abbrev pub invariant-loop-k : goal.invariant-loop-k
invariant-loop-k l = OnLine l.first l.step l.stored (l.k * 64)
