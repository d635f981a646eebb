-- `line_end` meets its contract: the groups passed, and the place of the newline behind them.
use Rattle.std.proofs.Common.{rules, ◌≡◌, ◌≤◌, ◌+◌, sym, arith, refl, length}
use Rattle.lines.specs.Next.{line_end}
use Rattle.lines.proofs.Newlines.{end_none, end_below, end-parts}
use Rattle.lines.proofs.ends.line_end.Goals as goal

pub returns-then-block-from : goal.returns-then-block-from
returns-then-block-from c = sym (end_none _ _ c.if-block-from.true)

pub overflow_add-result-2 : goal.overflow_add-result-2
overflow_add-result-2 c =
    let block = c.args.block.now in
    let e : c.args.from + c.skip-start.result + c.up_to.result ≡ line_end block c.args.from = end-parts block _ _ _ _ refl c.skip-start.ensures.passed c.up_to.ensures in
    let b : line_end block c.args.from ≤ length block = end_below block c.args.from (omega arith) in
    search rules

pub returns : goal.returns
returns c = end-parts c.args.block.now _ _ _ _ refl c.skip-start.ensures.passed c.up_to.ensures
