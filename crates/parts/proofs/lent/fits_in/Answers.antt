-- `fits_in` meets its contract: 64 bytes are read fit by fit.
use Rattle.std.proofs.Common.{length, ap, arith, eq-eqb, ne_eqb}
use Rattle.lists.proofs.Filled.{filled_none, filled_more, filled-all}
use Rattle.parts.specs.Parts.{fits_size}
use Rattle.parts.specs.Lent.{fits_in}
use Rattle.parts.proofs.lent.fits_in.Goals as goal

pub returns-then-bytes-ne-FITS_SIZE : goal.returns-then-bytes-ne-FITS_SIZE
unfolding fits_in
returns-then-bytes-ne-FITS_SIZE c =
    let b = c.args.bytes.now in
    rw (ne_eqb (length b) fits_size (λ e. omega arith)) c.blanks-fits.ensures

pub loop-s-init : goal.loop-s-init
loop-s-init c = filled_none _ _ _ (ap length c.blanks-fits.ensures)

pub loop-s-preserved : goal.loop-s-preserved
loop-s-preserved c =
    let l = c.loop-s in
    filled_more _ _ _ l.s c.fit_in.result l.invariant (omega arith) c.fit_in.ensures

pub returns : goal.returns
unfolding fits_in
returns c =
    let b = c.args.bytes.now in
    let l = c.loop-s in
    rw (eq-eqb (length b) fits_size (omega arith)) (filled-all _ _ _ l.s l.invariant (omega arith))
