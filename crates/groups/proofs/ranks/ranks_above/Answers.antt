-- The first difference decides.
use Rattle.std.proofs.Common.{rules}
use Rattle.groups.proofs.Order.{ranks-above}
use Rattle.groups.proofs.ranks.ranks_above.Goals as goal

pub returns : goal.returns
returns c = search (rules, ranks-above)
