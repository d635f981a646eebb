-- `after_short`: at each turn the register, with the octets that are left, comes to the same (`eight-in`).
use mathlib.Core.Path.{◌≡◌}
use Prim.Native.Nat.{◌-◌, ◌≤◌, ◌<◌, ◌^◌}
use lib.ListN.{length, drop}
use Rattle.checksum.specs.Register.{register_after}
use Rattle.crc.proofs.register.after_short.Given as goal

abbrev pub invariant-loop-i : goal.invariant-loop-i
invariant-loop-i l = (l.i ≤ length l.octets) × (l.r < 2 ^ 32) × (register_after l.r (drop l.i l.octets) ≡ register_after l.start l.octets)

abbrev pub decreases-loop-i : goal.decreases-loop-i
decreases-loop-i l = length l.octets - l.i
