-- One fit more has the exactness of its shifted bytes. Assumes nothing.
use native.Mathlib.Omega.{arith}
use Rattle.verdict.proofs.WeakSectors.{refit-more}
use Rattle.verdict.proofs.sectors.refit.Goals as goal

pub loop-s-preserved : goal.loop-s-preserved
loop-s-preserved c =
    let l = c.loop-s in
    refit-more _ _ _ l.s c.sector_end.result c.all_same-exact.result l.invariant (omega arith) c.sector_end.ensures c.all_same-exact.ensures
