-- `put_fits` meets its contract: the fits so far, one behind the other.
use Rattle.std.proofs.Common.{◌≡◌}
use Rattle.lists.specs.Pieces.{over}
use Rattle.reply.specs.Report.{fit_reports}
use Rattle.reply.proofs.writing.put_fits.Given as goal

abbrev pub invariant-loop-s : goal.invariant-loop-s
invariant-loop-s l = l.bytes ≡ over l.initial.bytes l.at (fit_reports l.fits l.s)
