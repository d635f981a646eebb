-- `pair_at` meets its contract: each byte read is the plain one.
use Rattle.std.proofs.Common.{◌+◌, arith}
use Rattle.lists.proofs.Plain.{plain_at}
use Rattle.slots.proofs.values.Plain.pair_at.Goals as goal

pub returns : goal.returns
returns c =
    let xs = c.args.self.now.bytes.now in
    omega (arith, plain_at c.args.self.now.bv xs c.args.i (omega arith), plain_at c.args.self.now.bv xs (c.args.i + 1) (omega arith))
