-- `all_same` meets its contract: all bytes are equal where all are the first.
use Rattle.std.proofs.Common.{◌∙◌, rules}
use Rattle.sector.proofs.Exact.{same_first, same_empty}
use Rattle.sector.proofs.same.all_same.Goals as goal

pub returns-in-Some : goal.returns-in-Some
returns-in-Some c = c.all_are.ensures ∙ same_first _ _ (search rules)

pub returns-in-None : goal.returns-in-None
returns-in-None c = same_empty _ (search rules)
