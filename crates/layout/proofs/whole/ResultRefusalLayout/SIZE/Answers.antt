-- The size with the answer part fits.
use Rattle.std.proofs.Common.{arith}
use Rattle.layout.proofs.whole.ResultRefusalLayout.SIZE.Goals as goal

pub overflow_add-result : goal.overflow_add-result
overflow_add-result g c = omega (arith, g.met.T.Record.small, c.SIZE.ensures)
