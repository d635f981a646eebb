-- `next_line` meets its contract: a law for each way out.
use borrow.Author.Rules.{rules}
use mathlib.Core.Path.{refl}
use native.Mathlib.Omega.{arith}
use Rattle.lines.proofs.Newlines.{end-above}
use Rattle.lines.proofs.Found.{next_past, next-rest, next_here, next-begun}
use Rattle.lines.proofs.next.next_line.Goals as goal

pub returns-then-block-from : goal.returns-then-block-from
returns-then-block-from c =
    let a = c.args in
    let e = next_past a.line.now a.kept _ _ _ c.line_end-end.ensures (search rules) in
    record { value = e.0; line_after = e.1 }

pub returns-then-block-end : goal.returns-then-block-end
returns-then-block-end c =
    let a = c.args in
    let k = c.keep-kept.ensures in
    let e = next-rest a.line.now a.kept _ _ _ c.line_end-end.ensures _ _ _ (k.value, k.line_after) (search rules) (search rules) refl in
    record { value = e.0; line_after = e.1 }

pub returns-then-kept-eq0 : goal.returns-then-kept-eq0
returns-then-kept-eq0 c =
    let a = c.args in
    let e = next_here a.line.now a.kept _ _ _ c.line_end-end.ensures (search rules) (search rules) in
    record { value = e.0; line_after = e.1 }

pub slice_bounds-keep-count-2 : goal.slice_bounds-keep-count-2
slice_bounds-keep-count-2 c =
    let a = c.args in
    omega (arith, c.line_end-end.ensures, end-above a.block.now a.from)

pub slice_bounds-keep-start-2 : goal.slice_bounds-keep-start-2
slice_bounds-keep-start-2 c =
    let a = c.args in
    omega (arith, c.line_end-end.ensures, end-above a.block.now a.from)

pub returns : goal.returns
returns c =
    let a = c.args in
    let k = c.keep-kept-2.ensures in
    let e = next-begun a.line.now a.kept _ _ _ c.line_end-end.ensures _ _ _ (k.value, k.line_after) (search rules) c.if-kept-eq0.false refl in
    record { value = e.0; line_after = e.1 }
