-- `search_limit` meets its contract: two bytes, the greater first.
use borrow.Author.Rules.{rules}
use mathlib.Core.Path.{◌∙◌}
use Rattle.frame.proofs.Frames.{big-two}
use Rattle.frame.proofs.reading.search_limit.Goals as goal

pub returns : goal.returns
returns c = c.from.ensures ∙ c.from_be_bytes.ensures ∙ big-two c.args.bytes.now (search rules)
