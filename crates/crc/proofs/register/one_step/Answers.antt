-- `one_step`: the definition, with the low-order bit taken by a mask.
use mathlib.Core.Path.{ap}
use Prim.Native.Nat.{ℕ, ◌*◌, ◌/◌}
use native.Mathlib.Nat.{mod-lt}
use native.Mathlib.Omega.{arith}
use lib.Bits.{bit_xor, and_mask}
use lib.Dec.{lit<}
use Rattle.checksum.specs.Register.{taps, step}
use Rattle.crc.proofs.register.one_step.Goals as goal

pub overflow_mul-result : goal.overflow_mul-result
overflow_mul-result c = omega (arith, and_mask c.args.x 1, mod-lt c.args.x {m = 2} (lit< tt))

pub returns : goal.returns
unfolding step
returns c = ap (λ (b : ℕ). bit_xor (c.args.x / 2) (b * taps)) (and_mask c.args.x 1)
