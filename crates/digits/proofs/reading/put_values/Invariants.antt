-- `put_values` meets its contract: the values so far, and the greatest of them.
use Rattle.std.proofs.Common.{◌≡◌}
use Rattle.lists.specs.Counts.{greatest}
use Rattle.lists.specs.Pieces.{each, over}
use Rattle.digits.specs.Digits.{value_at}
use Rattle.digits.proofs.reading.put_values.Given as goal

abbrev pub invariant-loop-i : goal.invariant-loop-i
invariant-loop-i l = (l.worst ≡ greatest (value_at l.line) l.i) × (l.values ≡ over l.initial.values 0 (each (value_at l.line) l.i))
