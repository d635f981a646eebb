-- `write_shifted` meets its contract: what was written are the shifted bytes of what was read.
use Rattle.std.proofs.Common.{◌≡◌, length, take}
use Rattle.sector.specs.Fit.{shifted_list}
use Rattle.sector.proofs.scan.write_shifted.Given as goal

abbrev pub invariant-loop-i : goal.invariant-loop-i
invariant-loop-i l = (length l.out ≡ length l.stored) × (take l.i l.out ≡ shifted_list l.offset l.step (take l.i l.stored))
