-- `peaks` meets its contract: the greatest sums at the values that were seen and at those a quarter, a half and three quarters on.
use Rattle.std.proofs.Common.{◌≡◌}
use Rattle.rings.proofs.PeakSearch.{peaks_to}
use Rattle.rings.proofs.quads.peaks.Given as goal

abbrev pub invariant-loop-v : goal.invariant-loop-v
invariant-loop-v l = (l.best ≡ peaks_to l.eight l.s l.v)
