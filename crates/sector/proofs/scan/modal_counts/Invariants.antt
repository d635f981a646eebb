-- `modal_counts` meets its contract: the table is filled with the modal counts of the steps that were tried.
use Rattle.std.proofs.Common.{◌≡◌, length}
use Rattle.lists.proofs.Filled.{Filled}
use Rattle.sector.specs.Fit.{modal_at}
use Rattle.sector.proofs.scan.modal_counts.Given as goal

abbrev pub invariant-loop-step : goal.invariant-loop-step
invariant-loop-step l = (length l.room ≡ length l.stored) × Filled (modal_at l.offset l.stored) 256 l.step l.counts
