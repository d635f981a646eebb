-- `shifted` meets its contract: a place may be reduced before it is multiplied.
use Rattle.std.proofs.Common.{◌*◌, arith}
use Rattle.lists.specs.Bytes.{less}
use Rattle.sector.specs.Byte.{shifted_of}
use Rattle.sector.proofs.Bytes.{less-mod, mul-mod}
use Rattle.sector.proofs.arith.shifted.Goals as goal

pub returns : goal.returns
unfolding shifted_of
returns c =
    let a = c.args in
    less-mod _ _ (less a.b a.offset) (a.i * a.step) (omega arith) (mul-mod a.i a.step)
