-- `finish` meets its contract: an unfinished line is answered unless it is empty.
use Rattle.std.proofs.Common.{take, arith, rules}
use Rattle.lines.proofs.Stepping.{last_none, last_some}
use Rattle.reply.proofs.Replies.{reply-length}
use Rattle.reporter.proofs.blocks.finish.Goals as goal

pub returns-then-empty-clause-out_after : goal.returns-then-empty-clause-out_after
returns-then-empty-clause-out_after c = last_none _ _ _ c.if-empty.true

pub returns-clause-upper_bound : goal.returns-clause-upper_bound
returns-clause-upper_bound c = omega (arith, c.answer.ensures.place, c.answer.auto.out, reply-length (take c.args.kept c.args.line.now))

pub returns-clause-out_after : goal.returns-clause-out_after
returns-clause-out_after c =
    let a = c.args in
    let r = c.answer in
    let b = reply-length (take a.kept a.line.now) in
    last_some _ a.line.now a.kept a.out.now _ a.kept _ c.if-empty.false (search rules) (omega arith) (omega (arith, b)) r.ensures
