-- `digit_pair` meets its contract: the product puts two values side by side.
use Rattle.std.proofs.Common.{ℕ, ◌*◌, ◌/◌, ◌%◌, ap, ◌∙◌, rules}
use Rattle.digits.proofs.Values.{pair_of}
use Rattle.digits.proofs.reading.digit_pair.Goals as goal

pub returns : goal.returns
returns c = ap (λ (n : ℕ). n * 4097 / 256 % 256) (c.from-both.ensures ∙ c.from_le_bytes.ensures) ∙ pair_of _ _ (search rules)
