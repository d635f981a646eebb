-- `lumeviqo_replace` meets its contract: nothing where the call is not taken, else the replacement is told.
use native.Mathlib.Omega.{arith}
use Rattle.parts.proofs.LentFits.{lent-some, lent-none}
use Rattle.lumeviqo.proofs.Calls.{replace-short, replace-not, replace-made}
use Rattle.lumeviqo.proofs.summaries.lumeviqo_replace.Goals as goal

pub returns-then-answer-lt-SCAN_SIZE : goal.returns-then-answer-lt-SCAN_SIZE
returns-then-answer-lt-SCAN_SIZE c =
    replace-short (omega arith)

pub returns-in_default : goal.returns-in_default
returns-in_default c = replace-not (omega arith) (lent-none _ c.in_default.ensures)

pub returns : goal.returns
returns c =
    let a = c.args in
    let fits = lent-some a.fits.now c.in-Some.lent c.in-Some.ensures in
    replace-made _ _
    (omega (arith, c.if-answer-lt-SCAN_SIZE.false))
    fits.0
    fits.1
    c.replace_sector-made.ensures.0
    c.replace_sector-made.ensures.1
    c.replace_sector-made.ensures.2
    c.write.ensures
