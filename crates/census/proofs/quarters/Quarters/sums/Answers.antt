-- `sums` meets its contract: place after place the sum of four counts.
use Rattle.std.proofs.Common.{refl, arith, rules}
use Rattle.lists.proofs.Filled.{filled_none, filled_more}
use Rattle.census.proofs.quarters.Quarters.sums.Goals as goal

pub loop-v-init : goal.loop-v-init
loop-v-init c = filled_none _ _ _ refl

pub loop-v-preserved : goal.loop-v-preserved
loop-v-preserved c =
    let l = c.loop-v in
    filled_more _ _ l.out l.v _ l.invariant (search rules) (omega arith)
