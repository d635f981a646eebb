-- `double` meets its contract: the first r rings stand twice.
use Rattle.std.proofs.Common.{arith}
use Rattle.rings.specs.Table.{doubled}
use Rattle.rings.proofs.Rooms.{room-other}
use Rattle.rings.proofs.Laid.{rings-all}
use Rattle.rings.proofs.folds.double.Goals as goal

pub returns-then-out-ne4096 : goal.returns-then-out-ne4096
unfolding doubled
returns-then-out-ne4096 c = room-other _ _ c.if-out-ne4096.true

pub returns : goal.returns
unfolding doubled
returns c =
    let l = c.loop-r in
    let a = c.args in
    rings-all _ a.out.now l.r l.out (omega arith) (omega arith) l.invariant
