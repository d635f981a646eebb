-- `put_fit` meets its contract: eight bytes, one behind the other.
use borrow.Author.Rules.{rules}
use Rattle.reply.proofs.Reports.{fit-put}
use Rattle.reply.proofs.writing.put_fit.Goals as goal

pub returns : goal.returns
returns c =
    let a = c.args in
    fit-put a.bytes.now a.at a.f (search rules) c.from.result c.from.ensures c.put_big.ensures c.put_big-2.ensures c.put_big-3.ensures
