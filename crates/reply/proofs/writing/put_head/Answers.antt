-- `put_head` meets its contract: the page number behind the answer.
use borrow.Author.Rules.{rules}
use Rattle.reply.proofs.Reports.{head-put}
use Rattle.reply.proofs.writing.put_head.Goals as goal

pub returns : goal.returns
returns c = head-put c.args.bytes.now c.args.answer c.args.number (search rules) c.put_big.ensures
