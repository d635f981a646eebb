-- Sector after sector the tables hold what the exact ones add.
use Rattle.census.specs.Tables.{Noted}
use Rattle.census.proofs.pages.note_exact.Given as goal

abbrev pub invariant-loop-s : goal.invariant-loop-s
invariant-loop-s l = Noted l.fn.fits l.shifted l.s l.counts l.votes l.total
