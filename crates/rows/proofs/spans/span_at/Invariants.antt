-- `span_at` meets its contract: what `Seeking` says holds from the far end on.
use Rattle.rows.proofs.FarEnd.{Seeking}
use Rattle.rows.proofs.spans.span_at.Given as goal

abbrev pub invariant-loop-k : goal.invariant-loop-k
invariant-loop-k l = Seeking l.plain l.start l.count l.r l.stop l.k l.left l.offset
