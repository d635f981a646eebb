-- `lumeviqo_decode_supplied` meets its contract: nothing where the call is not taken, else the decoding is told.
use mathlib.Core.Path.{refl, ◌∙◌}
use native.Mathlib.Omega.{arith}
use Rattle.lumeviqo.proofs.Calls.{decoding-short, decoding-made}
use Rattle.lumeviqo.proofs.decodings.lumeviqo_decode_supplied.Goals as goal

pub returns-then-answer-lt-DECODING_SIZE : goal.returns-then-answer-lt-DECODING_SIZE
returns-then-answer-lt-DECODING_SIZE c = decoding-short (omega arith)

pub returns : goal.returns
returns c =
    let found = c.decode_with_bv-found.ensures in
    decoding-made _ (omega (arith, c.if-answer-lt-DECODING_SIZE.false)) refl (found.0 ∙ rw c.new-options.ensures) found.1 c.write.ensures
