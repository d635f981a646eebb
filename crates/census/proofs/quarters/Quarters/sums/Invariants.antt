-- `sums` meets its contract: place after place the sum of four counts.
use Rattle.std.proofs.Common.{◌%◌}
use Rattle.lists.proofs.Filled.{Filled}
use Rattle.census.specs.Tables.{held}
use Rattle.census.proofs.quarters.Quarters.sums.Given as goal

abbrev pub invariant-loop-v : goal.invariant-loop-v
invariant-loop-v l = Filled (λ v. held l.self v % 65536) 256 l.v l.out
