-- `first_break` meets its contract: past blocks that are on the line, all bytes before place i are.
use Rattle.quick.specs.Line.{OnLine}
use Rattle.quick.proofs.line.first_break.Given as goal

abbrev pub invariant-loop-i : goal.invariant-loop-i
invariant-loop-i l = OnLine l.first l.step l.stored l.i
