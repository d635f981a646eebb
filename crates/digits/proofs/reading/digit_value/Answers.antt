-- `digit_value` meets its contract: the lesser of what a character is as a decimal digit and as a letter.
use Rattle.std.proofs.Common.{ℕ, ◌+◌, ◌%◌, min, ap, ◌∙◌, ap₂, rules, arith}
use Rattle.digits.proofs.Values.{digit-lesser}
use Rattle.digits.proofs.reading.digit_value.Goals as goal

pub returns : goal.returns
returns c =
    let small = c.lower_case-letter.result in
    c.min-2.ensures
    ∙ ap₂ min (ap (λ (n : ℕ). (n + 10) % 256) c.max.ensures) (ap (λ (n : ℕ). n + 10) c.min.ensures)
    ∙ digit-lesser _ ((c.args.c + 198) % 256) (search rules) (omega arith) (omega arith) ((small + 159) % 256) (omega arith) (omega arith)
