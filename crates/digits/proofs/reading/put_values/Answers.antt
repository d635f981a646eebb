-- `put_values` meets its contract: the values so far, and the greatest of them.
use Rattle.std.proofs.Common.{◌≡◌, length, sym, ap, ◌∙◌, arith, ap₂, max}
use Rattle.lists.specs.Counts.{greatest}
use Rattle.lists.specs.Pieces.{each, over}
use Rattle.lists.proofs.Greatest.{greatest-none, greatest-more}
use Rattle.lists.proofs.Filled.{each_start, each-put}
use Rattle.digits.specs.Digits.{value_at, digit_values, worst_of}
use Rattle.digits.proofs.reading.put_values.Goals as goal

pub loop-i-init : goal.loop-i-init
loop-i-init c = (sym (greatest-none _), each_start _ _)

pub loop-i-preserved : goal.loop-i-preserved
loop-i-preserved c =
    let l = c.loop-i in
    let v = c.digit_value-value in (
      c.max-worst.ensures ∙ ap₂ max l.invariant.0 v.ensures ∙ sym (greatest-more (value_at c.args.line.now) l.i),
      rw l.invariant.1 (each-put (value_at c.args.line.now) c.args.values.now l.i v.result (omega arith) v.ensures),
    )

pub returns : goal.returns
unfolding worst_of digit_values
returns c =
    let l = c.loop-i in
    let line = c.args.line.now in
    let e : l.i ≡ length line = omega arith in
    record { value = l.invariant.0 ∙ ap (greatest (value_at line)) e; values_after = l.invariant.1 ∙ ap (λ i. over c.args.values.now 0 (each (value_at line) i)) e }
