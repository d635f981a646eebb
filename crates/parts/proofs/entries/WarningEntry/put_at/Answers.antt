-- A warning's puts are its fields.
use Rattle.std.proofs.Common.{ap}
use Rattle.answers.specs.declared.values.Values.{Values}
use Rattle.fields.specs.Fields.{field_bytes}
use Rattle.fields.proofs.Puts.{put-none, put-field, put-known}
use Rattle.parts.specs.Parts.{warning_fields}
use Rattle.parts.proofs.entries.WarningEntry.put_at.Goals as goal

-- the puts, from the last back
pub returns : goal.returns
unfolding warning_fields field_bytes
returns c =
    let v = c.values-values.ensures in
    put-known c.number.ensures c.put-at.ensures
    (put-field c.put-at-2.ensures
    (put-known (ap (λ (v : Values). v.first) v) c.put-at-3.ensures
    (put-known (ap (λ (v : Values). v.second) v) c.put-at-4.ensures
    (put-known (ap (λ (v : Values). v.third) v) c.put.ensures put-none))))
