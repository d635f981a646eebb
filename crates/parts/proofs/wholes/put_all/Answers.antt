-- `put_all` meets its contract: each turn puts one entry right behind those before it.
use Rattle.std.proofs.Common.{arith, rules}
use Rattle.parts.proofs.Items.{items_none, items_more, items_done}
use Rattle.parts.proofs.wholes.put_all.Goals as goal

pub loop-x-init : goal.loop-x-init
loop-x-init g c = items_none _ _ _

pub loop-x-preserved : goal.loop-x-preserved
loop-x-preserved g c = items_more _ _ _ c.x-item.result (search rules) c.loop-x-test.true c.x-item.is c.loop-x.invariant c.put_at-next.ensures

pub returns : goal.returns
returns g c = items_done _ _ _ g.row.N c.loop-x.invariant (omega arith)
