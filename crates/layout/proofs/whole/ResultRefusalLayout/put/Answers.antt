-- The parts are put one behind the other; beside a refusal, one field of zeros.
use Rattle.std.proofs.Common.{ℕ, ap, ◌∙◌}
use Rattle.numbers.specs.Numbers.{little_bytes}
use Rattle.numbers.proofs.Stored.{wrote-same}
use Rattle.fields.specs.Fields.{field_bytes}
use Rattle.fields.proofs.Puts.{put-none, put-field, put_then}
use Rattle.parts.proofs.Zeros.{zeros-little}
use Rattle.layout.proofs.whole.ResultRefusalLayout.put.Goals as goal

pub returns-in-Ok : goal.returns-in-Ok
returns-in-Ok g c = rw c.in-Ok.is (put_then c.put_answer-at.ensures c.put.ensures)

pub returns-in-Err : goal.returns-in-Err
unfolding field_bytes
returns-in-Err g c =
    let zeros = zeros-little c.SIZE.result ∙ ap (λ (n : ℕ). little_bytes n 0) c.SIZE.ensures in
    rw c.in-Err.is (put_then c.put_answer-at-in-Err.ensures (put-field (wrote-same zeros c.put_zeros.ensures) put-none))
