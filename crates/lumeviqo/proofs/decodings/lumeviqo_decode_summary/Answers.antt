-- `lumeviqo_decode_summary` meets its contract: nothing where the call is not taken, else the decoding is told.
use mathlib.Core.Path.{◌∙◌}
use native.Mathlib.Omega.{arith}
use Rattle.parts.proofs.LentFits.{lent-some, lent-none}
use Rattle.lumeviqo.proofs.Calls.{decoding-short, decoding-not, decoding-made}
use Rattle.lumeviqo.proofs.decodings.lumeviqo_decode_summary.Goals as goal

pub returns-then-answer-lt-DECODING_SIZE : goal.returns-then-answer-lt-DECODING_SIZE
returns-then-answer-lt-DECODING_SIZE c = decoding-short (omega arith)

pub returns-in_default : goal.returns-in_default
returns-in_default c = decoding-not (omega arith) (lent-none _ c.in_default.ensures)

pub returns : goal.returns
returns c =
    let fits = lent-some c.args.fits.now c.in-Some.lent c.in-Some.ensures in
    let found = c.decode_summary-found.ensures in
    decoding-made _
    (omega (arith, c.if-answer-lt-DECODING_SIZE.false))
    fits.0
    (found.0 ∙ rw (fits.1, c.new-options.ensures))
    found.1
    c.write.ensures
