-- `put_pairs` meets its contract: what was paired stands at the front.
use Rattle.std.proofs.Common.{◌≡◌}
use Rattle.lists.specs.Pieces.{each, over}
use Rattle.digits.specs.Digits.{value_pair}
use Rattle.digits.proofs.reading.put_pairs.Given as goal

abbrev pub invariant-loop-i : goal.invariant-loop-i
invariant-loop-i l = l.bytes ≡ over l.initial.bytes 0 (each (value_pair l.values) l.i)
