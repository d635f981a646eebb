-- `after_medium`: at each turn the register of 320 bits, with the octets that are left, comes to the same (`turned`).
use mathlib.Core.Path.{◌≡◌}
use Prim.Native.Nat.{◌+◌, ◌-◌, ◌≤◌}
use lib.ListN.{length, drop}
use Rattle.checksum.specs.Register.{register_after, wide_register}
use Rattle.checksum.proofs.WideTurn.{FiveWords}
use Rattle.crc.proofs.wide.after_medium.Given as goal

abbrev pub invariant-loop-i : goal.invariant-loop-i
invariant-loop-i l =
    (l.i ≤ l.last) × (l.last + 40 ≡ length l.octets) × FiveWords l.n1 l.n2 l.n3 l.n4 l.n5 × (register_after (wide_register l.n1 l.n2 l.n3 l.n4 l.n5) (drop l.i l.octets) ≡ register_after l.start l.octets)

abbrev pub decreases-loop-i : goal.decreases-loop-i
decreases-loop-i l = l.last - l.i
