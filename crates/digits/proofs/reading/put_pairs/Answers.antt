-- `put_pairs` meets its contract: what was paired stands at the front.
use Rattle.std.proofs.Common.{◌≡◌, ap, ◌∙◌, arith}
use Rattle.lists.specs.Pieces.{each, over}
use Rattle.digits.specs.Digits.{value_pair}
use Rattle.lists.proofs.Filled.{each_start, each-put}
use Rattle.digits.proofs.reading.put_pairs.Goals as goal

pub loop-i-init : goal.loop-i-init
loop-i-init c = each_start _ _

pub loop-i-preserved : goal.loop-i-preserved
loop-i-preserved c =
    let l = c.loop-i in
    rw l.invariant (each-put (value_pair c.args.values.now) c.args.bytes.now l.i _ (omega arith) c.digit_pair.ensures)

pub returns : goal.returns
returns c =
    let l = c.loop-i in
    let e : l.i ≡ c.args.n = omega arith in
    l.invariant ∙ ap (λ i. over c.args.bytes.now 0 (each (value_pair c.args.values.now) i)) e
