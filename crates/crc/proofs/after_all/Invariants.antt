-- `after_all`: at each turn the register, with the octets that are left, comes to the same (`chunk_in`, `rest_in`).
use mathlib.Core.Path.{◌≡◌}
use Prim.Native.Nat.{◌-◌, ◌≤◌, ◌<◌, ◌^◌}
use lib.ListN.{length, drop}
use Rattle.checksum.specs.Register.{register_after}
use Rattle.crc.proofs.after_all.Given as goal

abbrev pub invariant-loop-i : goal.invariant-loop-i
invariant-loop-i l = (l.i ≤ length l.octets) × (l.r < 2 ^ 32) × (register_after l.r (drop l.i l.octets) ≡ register_after (2 ^ 32 - 1) l.octets)

abbrev pub decreases-loop-i : goal.decreases-loop-i
decreases-loop-i l = length l.octets - l.i
