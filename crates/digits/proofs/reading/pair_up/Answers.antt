-- `pair_up` meets its contract: all bytes or none.
use Rattle.std.proofs.Common.{◌∙◌, rules}
use Rattle.digits.proofs.Spelling.{pairs-no, pairs-yes}
use Rattle.digits.proofs.reading.pair_up.Goals as goal

pub returns-then-n-bytes : goal.returns-then-n-bytes
returns-then-n-bytes c = c.put_pairs.ensures ∙ pairs-yes _ _ (search rules)

pub returns-else-n-bytes : goal.returns-else-n-bytes
returns-else-n-bytes c = pairs-no _ _ (search rules)
