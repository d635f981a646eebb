-- `put_answer` meets its contract: its puts are its fields.
use Rattle.std.proofs.Common.{ℕ, ◌+◌, ◌*◌, ap, ap₂, ◌∙◌}
use Rattle.answers.specs.declared.values.Values.{Values}
use Rattle.fields.specs.Fields.{field_bytes}
use Rattle.fields.proofs.Puts.{put-none, put-known}
use Rattle.parts.specs.Parts.{answer_fields}
use Rattle.parts.proofs.Heads.{numbered, valued}
use Rattle.parts.proofs.entries.put_answer.Goals as goal

-- the puts, from the last back
pub returns : goal.returns
unfolding answer_fields field_bytes
returns c =
    let v = valued c.args.x c.map_or-values.ensures in
    let number = c.from.ensures ∙ numbered c.args.x c.map_or-number.ensures in
    let count = c.from-2.ensures ∙ ap (λ (v : Values). v.count) v in
    put-known (ap₂ (λ (n k : ℕ). n + 256 * k) number count) c.put-at.ensures
    (put-known (ap (λ (v : Values). v.first) v) c.put-at-2.ensures
    (put-known (ap (λ (v : Values). v.second) v) c.put-at-3.ensures
    (put-known (ap (λ (v : Values). v.third) v) c.put-at-4.ensures
    (put-known (ap (λ (v : Values). v.fourth) v) c.put.ensures put-none))))
