-- Sector after sector the counts of those that are not exact are added.
use Rattle.std.proofs.Common.{◌≡◌, ◌+◌, ◌%◌, ap, ◌∙◌, arith}
use Rattle.lists.specs.Bytes.{byte_at}
use Rattle.lists.specs.Counts.{count, sum}
use Rattle.lists.proofs.Each.{each-ext}
use Rattle.census.specs.Told.{other_count}
use Rattle.census.specs.Tables.{held, with_others}
use Rattle.census.proofs.Counting.{others-none, others_no, others-yes, others-le, part_of}
use Rattle.census.proofs.quarters.with_others.Goals as goal
use Rattle.census.proofs.quarters.with_others.Goals.{then-not-fit, else-not-fit}

pub loop-s-init : goal.loop-s-init
loop-s-init c v h = omega (arith, c.after-counts.ensures v h, others-none c.args.fits c.args.shifted.now v)

pub loop-s-preserved : goal.loop-s-preserved
loop-s-preserved c v h =
    let a = c.args in
    let l = c.loop-s in
    elim c.if-not-fit.branch [
      | then-not-fit w ↦
          ap (λ t. held t v % 65536) w.counts-is
          ∙ omega (
            arith,
            w.add.ensures v h,
            l.invariant v h,
            ap (count v) (part_of a.shifted.now l.s _ w.sector_end.ensures),
            others-yes a.fits a.shifted.now v l.s w.if-not-fit.true,
          )
      | else-not-fit w ↦ ap (λ t. held t v % 65536) w.counts-is ∙ omega (arith, l.invariant v h, others_no a.fits a.shifted.now v l.s w.if-not-fit.false)
    ]

pub returns : goal.returns
unfolding with_others
returns c =
    let a = c.args in
    let l = c.loop-s in
    let e : l.s ≡ 8 = omega arith in
    c.sums.ensures
    ∙ each-ext (λ v. held l.counts v % 65536) (λ v. byte_at a.table v + sum (other_count a.fits a.shifted.now v) 8) 256
    (λ v h.
    omega
    (arith, l.invariant v h, ap (sum (other_count a.fits a.shifted.now v)) e, c.requires.at_most.small v h, others-le a.fits a.shifted.now v l.s))
