-- `after_octets`: at each turn the register, with the octets that are left, comes to the same (`octet-in`).
use mathlib.Core.Path.{◌≡◌}
use lib.ListN.{drop}
use Rattle.checksum.specs.Register.{register_after}
use Rattle.crc.proofs.register.after_octets.Given as goal

abbrev pub invariant-loop-k : goal.invariant-loop-k
invariant-loop-k l = register_after l.r (drop l.k l.octets) ≡ register_after l.start (drop l.i l.octets)
