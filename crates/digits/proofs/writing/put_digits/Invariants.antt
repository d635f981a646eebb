-- `put_digits` meets its contract: the digits of the bytes passed stand at the front.
use Rattle.std.proofs.Common.{◌≡◌, ◌+◌, take}
use Rattle.lists.specs.Pieces.{over}
use Rattle.digits.specs.Digits.{hexed}
use Rattle.digits.proofs.writing.put_digits.Given as goal

abbrev pub invariant-loop-i : goal.invariant-loop-i
invariant-loop-i l = l.out ≡ over l.initial.out 0 (take (l.i + l.i) (hexed l.bytes))
