-- A fit's puts are its fields.
use Rattle.fields.specs.Fields.{field_bytes}
use Rattle.fields.proofs.Puts.{put-none, put-field}
use Rattle.parts.specs.Parts.{fit_fields}
use Rattle.parts.proofs.entries.FitEntry.put_at.Goals as goal

-- the puts, from the last back
pub returns : goal.returns
unfolding fit_fields field_bytes
returns c =
    put-field c.put-at.ensures
    (put-field c.put-at-2.ensures
    (put-field c.put-at-3.ensures
    (put-field c.put-at-4.ensures
    (put-field c.put.ensures put-none))))
