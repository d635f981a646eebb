-- `copy` meets its contract: each turn writes one byte more of the bytes.
use mathlib.Core.Path.{◌∙◌}
use native.Mathlib.Omega.{arith}
use lib.ListN.{get_or, length-set}
use Rattle.numbers.proofs.Copies.{copied-not, copied_more, copied_all}
use Rattle.numbers.proofs.bytes.copy.Goals as goal

pub returns-then-from-out : goal.returns-then-from-out
returns-then-from-out c = copied-not _ _ (λ e. omega arith)

pub loop-i-preserved : goal.loop-i-preserved
loop-i-preserved c =
    let a = c.args in
    let l = c.loop-i in (
      l.invariant.0,
      length-set l.out l.i (get_or a.from.now l.i 0) ∙ l.invariant.1,
      copied_more a.from.now l.out l.i l.invariant.2 (omega arith) (omega arith),
    )

pub returns : goal.returns
returns c =
    let l = c.loop-i in copied_all _ _ l.out l.i l.invariant.0 l.invariant.1 l.invariant.2 (omega arith)
