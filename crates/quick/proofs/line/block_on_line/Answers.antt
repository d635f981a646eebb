-- `block_on_line` meets its contract: `on` says whether all bytes that were seen are on the line, and `next` is its byte there.
use Rattle.std.proofs.Common.{◌≡◌, length, sym, ◌∙◌, subst, arith, rules}
use Rattle.quick.proofs.Lines.{line-next, Seen, seen-off, seen-on, seen_all}
use Rattle.quick.proofs.line.block_on_line.Goals as goal
use Rattle.quick.proofs.line.block_on_line.Goals.{then-b-next, else-b-next}

pub loop-b-preserved : goal.loop-b-preserved
loop-b-preserved c =
    let a = c.args in
    let l = c.loop-b in
    let x = a.first in
    let k = a.step in
    let bytes = a.block.now in (
      line-next x k l.b-index l.next l.invariant.0,
      elim c.if-b-next.branch [
        | then-b-next w ↦ subst (Seen x k bytes _) (sym w.on-is) (seen-off x k bytes l.b-index l.on l.invariant.1 (search rules) (λ e. w.if-b-next.true (e ∙ sym l.invariant.0)))
        | else-b-next w ↦ subst (Seen x k bytes _) (sym w.on-is) (seen-on x k bytes l.b-index l.on l.invariant.1 (search rules) (w.if-b-next.false ∙ l.invariant.0))
      ],
    )

pub returns : goal.returns
returns c =
    let a = c.args in
    let l = c.loop-b in
    let e : l.b-index ≡ length a.block.now = omega arith in
    seen_all a.first a.step a.block.now l.on (subst (λ i. Seen a.first a.step a.block.now i l.on) e l.invariant.1)
