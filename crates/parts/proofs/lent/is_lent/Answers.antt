-- `is_lent` meets its contract, mark by mark.
use Rattle.std.proofs.Common.{arith, rules}
use Rattle.parts.proofs.LentFits.{marked-none, marked_more, lent-short, lent_other, lent-all}
use Rattle.parts.proofs.lent.is_lent.Goals as goal

pub returns-then-bytes-ne-FITS_SIZE : goal.returns-then-bytes-ne-FITS_SIZE
returns-then-bytes-ne-FITS_SIZE c = lent-short _ (λ e. search rules)

pub loop-s-init : goal.loop-s-init
loop-s-init c = marked-none _

pub returns-then-bytes-s-gt1 : goal.returns-then-bytes-s-gt1
returns-then-bytes-s-gt1 c = lent_other _ _ c.loop-s.invariant (omega arith) (omega arith) (omega arith)

pub loop-s-preserved : goal.loop-s-preserved
loop-s-preserved c = marked_more _ _ c.loop-s.invariant (omega arith) (omega arith)

pub returns : goal.returns
returns c = lent-all _ _ c.loop-s.invariant (omega arith) (omega arith)
