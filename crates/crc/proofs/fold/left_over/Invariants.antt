-- `left_over`: one more octet is there a turn (`left-more`).
use Rattle.crc.specs.Folds.{LeftOver}
use Rattle.crc.proofs.fold.left_over.Given as goal

abbrev pub invariant-loop-k : goal.invariant-loop-k
invariant-loop-k l = LeftOver l.octets l.sums l.left l.j l.k
