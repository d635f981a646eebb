-- `tally` meets its contract: the table counts the first bytes of each class.
use Rattle.rings.proofs.Counted.{Counted}
use Rattle.rings.proofs.tallies.tally.Given as goal

abbrev pub invariant-loop-block : goal.invariant-loop-block
invariant-loop-block l = Counted l.stored l.offset l.stride l.block-index l.shift l.out
