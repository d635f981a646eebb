-- `page_number` meets its contract: eight bytes, the greatest first.
use borrow.Author.Rules.{rules}
use mathlib.Core.Path.{◌∙◌}
use Rattle.frame.proofs.Frames.{big-eight}
use Rattle.frame.proofs.reading.page_number.Goals as goal

pub returns : goal.returns
returns c = c.from_be_bytes.ensures ∙ big-eight c.args.bytes.now (search rules)
