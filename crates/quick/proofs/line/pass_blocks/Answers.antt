-- `pass_blocks` meets its contract: the first k blocks are on the line.
use Rattle.std.proofs.Common.{◌≡◌, ◌*◌, ◌+◌, sym, ◌∙◌, subst, arith}
use Rattle.quick.specs.Line.{OnLine}
use Rattle.quick.proofs.Lines.{on-block}
use Rattle.quick.proofs.line.pass_blocks.Goals as goal

pub loop-k-preserved : goal.loop-k-preserved
loop-k-preserved c =
    let a = c.args in
    let l = c.loop-k in
    let e : l.k * 64 + 64 ≡ (l.k + 1) * 64 = omega arith in
    subst (OnLine a.first a.step a.stored.now) e
    (on-block a.first a.step a.stored.now (l.k * 64) (l.k * 64 + 64) c.line_at.result l.invariant c.line_at.ensures (omega arith) (omega arith)
    (sym c.if-not-block_on_line.false ∙ c.block_on_line.ensures))
