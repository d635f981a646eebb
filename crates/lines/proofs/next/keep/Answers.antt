-- `keep` meets its contract: the lesser of what is left and what there is room for.
use borrow.Author.Rules.{rules}
use native.Mathlib.Omega.{arith}
use Rattle.lines.proofs.Found.{keep-none, keep_some}
use Rattle.lines.proofs.next.keep.Goals as goal

pub returns-then-line-kept : goal.returns-then-line-kept
returns-then-line-kept c =
    let a = c.args in
    let e = keep-none a.line.now a.kept a.part.now (search rules) in
    record { value = e.0; line_after = e.1 }

pub returns : goal.returns
returns c =
    let n = c.min-n in
    let a = c.args in
    let e = keep_some a.line.now a.kept a.part.now n.result _ _ (search rules) (omega (arith, n.ensures)) c.put_bytes.ensures in
    record { value = e.0; line_after = e.1 }
