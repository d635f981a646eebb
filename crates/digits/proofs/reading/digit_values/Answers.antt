-- `digit_values` meets its contract: all values or none.
use Rattle.std.proofs.Common.{◌∙◌, rules}
use Rattle.digits.proofs.Values.{values-no, values-yes}
use Rattle.digits.proofs.reading.digit_values.Goals as goal

pub returns-then-values-line : goal.returns-then-values-line
returns-then-values-line c =
    let e = values-no c.args.line.now c.args.values.now (search rules) in
    record { value = e.0; values_after = e.1 }

pub returns : goal.returns
returns c =
    let a = c.args in
    let p = c.put_values in
    let e = values-yes a.line.now a.values.now (search rules) in
    record { value = p.ensures.value ∙ e.0; values_after = p.ensures.values_after ∙ e.1 }
