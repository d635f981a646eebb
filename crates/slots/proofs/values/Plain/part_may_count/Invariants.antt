-- `part_may_count` meets its contract: nothing was seen at the positions so far.
use Rattle.std.proofs.Common.{◌≡◌, false}
use Rattle.slots.specs.Plain.{text}
use Rattle.slots.specs.Looks.{may_count}
use Rattle.slots.proofs.values.Plain.part_may_count.Given as goal

abbrev pub invariant-loop-i : goal.invariant-loop-i
invariant-loop-i l = may_count l.self.end (text l.self) l.n l.i ≡ false
