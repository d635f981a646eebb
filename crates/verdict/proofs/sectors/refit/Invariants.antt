-- The table is filled with the fits that have the exactness of their shifted bytes. Assumes nothing.
use Rattle.lists.proofs.Filled.{Filled}
use Rattle.verdict.specs.Sectors.{refit_at}
use Rattle.verdict.proofs.sectors.refit.Given as goal

abbrev pub invariant-loop-s : goal.invariant-loop-s
invariant-loop-s l = Filled (refit_at l.fits l.shifted) 8 l.s l.fit-items
