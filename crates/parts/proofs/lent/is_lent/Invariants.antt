-- The marks so far are seen.
use Rattle.parts.proofs.LentFits.{MarksSeen}
use Rattle.parts.proofs.lent.is_lent.Given as goal

abbrev pub invariant-loop-s : goal.invariant-loop-s
invariant-loop-s l = MarksSeen l.bytes l.s
