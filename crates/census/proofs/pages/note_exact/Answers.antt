-- Sector after sector the tables hold what the exact ones add.
use Rattle.std.proofs.Common.{ℕ, ◌-◌, ◌*◌, ap, arith, rules}
use Rattle.census.proofs.Noted.{noted-le, votes-le, total-le, noted-no, noted-yes, noted-as}
use Rattle.census.proofs.pages.note_exact.Goals as goal
use Rattle.census.proofs.pages.note_exact.Goals.{then-fit, else-fit}

pub overflow_add-counts : goal.overflow_add-counts
overflow_add-counts c = omega (arith, noted-le _ _ _ _ _ _ c.loop-s.invariant c.from-v.result (search rules))

pub overflow_add-votes : goal.overflow_add-votes
overflow_add-votes c = omega (arith, votes-le _ _ _ _ _ _ c.loop-s.invariant c.from-v.result (search rules))

pub overflow_add-total : goal.overflow_add-total
overflow_add-total c = omega (arith, total-le _ _ _ _ _ _ c.loop-s.invariant)

pub loop-s-preserved : goal.loop-s-preserved
loop-s-preserved c =
    let l = c.loop-s in
    elim c.if-fit.branch [
      | then-fit w ↦ noted-as _ _ _ w.counts-is w.votes-is w.total-is
          (noted-yes _ _ _ _ _ _ l.invariant w.from-v.result _ w.if-fit.true w.from-v.ensures (search rules) (ap (λ (k : ℕ). k - l.s * 512) w.sector_end.ensures))
      | else-fit w ↦ noted-as _ _ _ w.counts-is w.votes-is w.total-is (noted-no _ _ _ _ _ _ l.invariant w.if-fit.false)
    ]
