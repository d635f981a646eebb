-- `put_no_warning` meets its contract: its puts are its fields.
use Rattle.fields.specs.Fields.{field_bytes}
use Rattle.fields.proofs.Puts.{put-none, put-field}
use Rattle.parts.proofs.entries.put_no_warning.Goals as goal

-- the puts, from the last back
pub returns : goal.returns
unfolding field_bytes
returns c =
    put-field c.put_low-at.ensures
    (put-field c.put_low-at-2.ensures
    (put-field c.put_low-at-3.ensures
    (put-field c.put_low-at-4.ensures
    (put-field c.put_low.ensures put-none))))
