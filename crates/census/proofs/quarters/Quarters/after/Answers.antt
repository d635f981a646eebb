-- `after` meets its contract: three of the tables are empty.
use Rattle.std.proofs.Common.{ℕ, arith}
use Rattle.std.proofs.lemmas.List.{get_or-replicate}
use Rattle.census.proofs.quarters.Quarters.after.Goals as goal

pub returns : goal.returns
returns c v h = omega (arith, get_or-replicate {A = ℕ} 256 v 0 0 h)
