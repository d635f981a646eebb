-- The loop's invariant: the warnings are those of the first s sectors. Assumes nothing.
use mathlib.Core.Path.{◌≡◌}
use Rattle.verdict.specs.Sectors.{sector_warnings}
use Rattle.verdict.proofs.sectors.warn_sectors.Given as goal

abbrev pub invariant-loop-s : goal.invariant-loop-s
invariant-loop-s l = l.all ≡ sector_warnings l.number l.fn.fits l.initial.all l.s
