-- `put_bytes` meets its contract: the part of the buffer at the place becomes the bytes.
use Rattle.std.proofs.Common.{◌∙◌, rules}
use native.Mathlib.Omega.{arith}
use Rattle.numbers.proofs.Stored.{wrote-not, wrote-over}
use Rattle.numbers.proofs.Copies.{copied-same, over-part}
use Rattle.numbers.proofs.bytes.put_bytes.Goals as goal

pub returns-in_default : goal.returns-in_default
returns-in_default c = wrote-not (search rules)

pub returns : goal.returns
returns c =
    let e = c.in-Some.ensures in
    wrote-over (omega arith) (over-part _ _ _ _ _ (c.copy.ensures ∙ copied-same _ _ (search rules)) (omega arith)) (omega arith)
