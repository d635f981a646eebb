-- `fold_up_to`: one more octet is folded a turn (`folding-more`).
use Rattle.crc.specs.Folds.{Folding}
use Rattle.crc.proofs.fold.fold_up_to.Given as goal

abbrev pub invariant-loop-j : goal.invariant-loop-j
invariant-loop-j l = Folding l.start l.octets l.sums l.j
