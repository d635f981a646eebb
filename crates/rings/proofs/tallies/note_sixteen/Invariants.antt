-- `note_sixteen` meets its contract: the first r bytes are noted.
use Rattle.rings.specs.Table.{Noted}
use Rattle.rings.proofs.tallies.note_sixteen.Given as goal

abbrev pub invariant-loop-r : goal.invariant-loop-r
invariant-loop-r l = Noted l.sixteen l.shift l.initial.out l.r l.out
