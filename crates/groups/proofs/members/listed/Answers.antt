-- The first places of the table.
use Rattle.std.proofs.Common.{rules}
use Rattle.groups.proofs.Listed.{take-listed}
use Rattle.groups.proofs.members.listed.Goals as goal

pub returns : goal.returns
returns c = take-listed c.args.t.now _ (search rules) (search rules)
