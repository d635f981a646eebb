-- `may_count` meets its contract: nothing was seen in the blocks so far.
use Rattle.std.proofs.Common.{◌≡◌, ◌-◌, ◌≤◌, false}
use Rattle.slots.specs.Plain.{text}
use Rattle.slots.specs.Looks.{may_count}
use Rattle.slots.proofs.values.Plain.may_count.Given as goal

abbrev pub invariant-loop-at : goal.invariant-loop-at
invariant-loop-at l = (l.at ≤ l.end) × (may_count l.self.end (text l.self) l.n l.at ≡ false)

abbrev pub decreases-loop-at : goal.decreases-loop-at
decreases-loop-at l = l.end - l.at
