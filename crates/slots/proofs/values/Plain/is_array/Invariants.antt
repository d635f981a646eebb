-- `is_array` meets its contract: what `Seen` says holds while fewer than four live slots were seen.
use Rattle.std.proofs.Common.{◌+◌, ◌*◌}
use Rattle.slots.specs.Plain.{text}
use Rattle.slots.proofs.Looks.{Seen}
use Rattle.slots.proofs.values.Plain.is_array.Given as goal

abbrev pub invariant-loop-slot : goal.invariant-loop-slot
invariant-loop-slot l = Seen l.self.end (text l.self) l.at l.prev l.live (l.at + 2 + 2 * l.slot-index)
