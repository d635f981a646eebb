-- `put_digits` meets its contract: the digits of the bytes passed stand at the front.
use Rattle.std.proofs.Common.{◌+◌, ◌∙◌, arith, rules}
use Rattle.digits.specs.Digits.{hexed}
use Rattle.lists.proofs.Filled.{fill_none, fill-all}
use Rattle.digits.proofs.Spelling.{hexed-length, hexed-more}
use Rattle.digits.proofs.writing.put_digits.Goals as goal

pub loop-i-init : goal.loop-i-init
loop-i-init c = fill_none c.args.out.now (hexed c.args.bytes.now) 0

pub loop-i-preserved : goal.loop-i-preserved
loop-i-preserved c =
    let l = c.loop-i in
    rw l.invariant (hexed-more c.args.out.now c.args.bytes.now l.i _ _ (omega arith) (search rules) c.lower_digit.ensures c.lower_digit-in-loop-i.ensures)

pub returns : goal.returns
returns c =
    let l = c.loop-i in
    let bytes = c.args.bytes.now in
    l.invariant ∙ fill-all c.args.out.now (hexed bytes) 0 (l.i + l.i) (omega (arith, hexed-length bytes))
