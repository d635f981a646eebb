-- `put_line` meets its contract: the digits, and the newline behind them.
use borrow.Author.Rules.{rules}
use Rattle.std.proofs.Common.{arith}
use Rattle.reply.proofs.Reports.{line-digits, line-length, line-put}
use Rattle.reply.proofs.writing.put_line.Goals as goal

pub bounds-out-n : goal.bounds-out-n
bounds-out-n c =
    let w = c.write_hex-n in
    omega (arith, line-digits c.args.bytes.now c.args.out.now (search rules) w.result w.ensures.value)

pub overflow_add-result : goal.overflow_add-result
overflow_add-result c =
    let w = c.write_hex-n in
    omega (arith, line-digits c.args.bytes.now c.args.out.now (search rules) w.result w.ensures.value)

pub returns-clause-value : goal.returns-clause-value
returns-clause-value c =
    let w = c.write_hex-n in
    line-length c.args.bytes.now c.args.out.now (search rules) w.result w.ensures.value

pub returns-clause-out_after : goal.returns-clause-out_after
returns-clause-out_after c =
    let w = c.write_hex-n in
    line-put c.args.bytes.now c.args.out.now (search rules) w.result w.new.out w.ensures.value w.ensures.out_after
