-- A place that is not used is one field of zeros.
use Rattle.std.proofs.Common.{ℕ, ap, ◌∙◌}
use Rattle.numbers.specs.Numbers.{little_bytes}
use Rattle.numbers.proofs.Stored.{wrote-same}
use Rattle.fields.specs.Fields.{field_bytes}
use Rattle.fields.proofs.Puts.{put-none, put-field}
use Rattle.parts.proofs.Zeros.{zeros-little}
use Rattle.parts.proofs.wholes.OptionPart.put_at.Goals as goal

pub returns-in-None : goal.returns-in-None
unfolding field_bytes
returns-in-None g c =
    rw c.in-None.is
    (put-field (wrote-same (zeros-little c.SIZE.result ∙ ap (λ (n : ℕ). little_bytes n 0) c.SIZE.ensures) c.put_zeros.ensures) put-none)
