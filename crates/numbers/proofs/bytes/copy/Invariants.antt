-- `copy` meets its contract: each turn writes one byte more of the bytes.
use mathlib.Core.Path.{◌≡◌}
use lib.ListN.{length, take}
use Rattle.numbers.proofs.bytes.copy.Given as goal

abbrev pub invariant-loop-i : goal.invariant-loop-i
invariant-loop-i l =
    (length l.from ≡ length l.initial.out) × (length l.out ≡ length l.initial.out) × (take l.i l.out ≡ take l.i l.from)
