-- `put_fits` meets its contract: the fits so far, one behind the other.
use Rattle.std.proofs.Common.{ℕ, ◌+◌, ◌*◌, List, sym, ap, ◌∙◌, arith}
use Rattle.lists.specs.Pieces.{joined, over}
use Rattle.lists.proofs.Over.{over_none}
use Rattle.verdict.specs.Sectors.{entry}
use Rattle.reply.specs.Report.{fit_report}
use Rattle.reply.proofs.Reports.{fits_more}
use Rattle.reply.proofs.writing.put_fits.Goals as goal

pub loop-s-init : goal.loop-s-init
unfolding joined
loop-s-init c = sym (over_none c.args.bytes.now c.args.at)

pub loop-s-preserved : goal.loop-s-preserved
loop-s-preserved c =
    let l = c.loop-s in
    let a = c.args in
    c.put_fit.ensures
    ∙ ap (λ (w : List ℕ). over w (a.at + 8 * l.s) (fit_report (entry a.fits l.s))) l.invariant
    ∙ fits_more a.bytes.now a.at a.fits l.s (omega arith)
