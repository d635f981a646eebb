-- The fits so far are read.
use Rattle.std.proofs.Common.{◌*◌}
use Rattle.lists.proofs.Filled.{Filled}
use Rattle.parts.specs.Parts.{fit_size}
use Rattle.parts.specs.Lent.{fit_in}
use Rattle.parts.proofs.lent.fits_in.Given as goal

abbrev pub invariant-loop-s : goal.invariant-loop-s
invariant-loop-s l = Filled (λ k. fit_in l.bytes (fit_size * k)) 8 l.s l.fit-items
