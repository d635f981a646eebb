-- `write` meets its contract, by the layout's size.
use Rattle.std.proofs.Common.{arith}
use Rattle.fields.proofs.Puts.{layout-short, layout-put}
use Rattle.layout.proofs.whole.write.Goals as goal

pub returns-then-out-SIZE : goal.returns-then-out-SIZE
returns-then-out-SIZE g c = layout-short _ (g.met.T.Layout.sized c.args.x.now) (omega arith)

pub returns : goal.returns
returns g c = layout-put (g.met.T.Layout.sized c.args.x.now) c.put.ensures (omega arith)
