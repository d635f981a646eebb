-- The puts of a piece of evidence are its fields.
use Rattle.std.proofs.Common.{ap}
use Rattle.answers.specs.declared.values.Values.{Values}
use Rattle.fields.specs.Fields.{field_bytes}
use Rattle.fields.proofs.Puts.{put-none, put-known}
use Rattle.parts.specs.Parts.{ground_fields}
use Rattle.parts.proofs.entries.EvidenceEntry.put_at.Goals as goal

-- the puts, from the last back
pub returns : goal.returns
unfolding ground_fields field_bytes
returns c =
    let v = c.values-values.ensures in
    put-known c.number.ensures c.put-at.ensures
    (put-known (ap (λ (v : Values). v.first) v) c.put_low-at.ensures
    (put-known (ap (λ (v : Values). v.second) v) c.put_low.ensures put-none))
