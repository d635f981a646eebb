-- `put_slots` meets its contract: the bytes, and zeros behind them.
use Prim.Native.Nat.{ℕ, ◌-◌}
use native.Mathlib.Omega.{arith}
use lib.ListN.{length, length-replicate}
use Rattle.numbers.proofs.Stored.{wrote-not}
use Rattle.numbers.proofs.Kept.{wrote_then}
use Rattle.parts.specs.Parts.{slots_size}
use Rattle.parse_layout.proofs.Slots.{padded-long}
use Rattle.parse_layout.proofs.put_slots.Goals as goal

pub returns-then-out-lt-SLOTS_SIZE : goal.returns-then-out-lt-SLOTS_SIZE
returns-then-out-lt-SLOTS_SIZE c =
    let a = c.args in
    wrote-not (omega (arith, padded-long a.slots.now c.requires))

pub returns-then-out-at : goal.returns-then-out-at
returns-then-out-at c =
    let a = c.args in
    wrote-not (omega (arith, padded-long a.slots.now c.requires))

pub returns : goal.returns
returns c =
    let a = c.args in
    let n : ℕ = slots_size - length a.slots.now in
    wrote_then c.put_bytes-at.ensures c.put_zeros.ensures (omega (arith, length-replicate {A = ℕ} n 0))
