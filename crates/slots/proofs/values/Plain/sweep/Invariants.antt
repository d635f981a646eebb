-- `sweep` meets its contract: what `Swept` says holds as the pass comes down.
use Rattle.std.proofs.Common.{◌<◌}
use Rattle.slots.specs.Plain.{text}
use Rattle.slots.proofs.Sweeps.{Swept}
use Rattle.slots.proofs.values.Plain.sweep.Given as goal

abbrev pub invariant-loop-s : goal.invariant-loop-s
invariant-loop-s l = (l.s < l.self.end) × Swept l.self.end (text l.self) l.s l.near l.far l.best

abbrev pub decreases-loop-s : goal.decreases-loop-s
decreases-loop-s l = l.s
