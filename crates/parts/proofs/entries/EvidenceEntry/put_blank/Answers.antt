-- The place of a piece of evidence that is not used is put field by field.
use Rattle.fields.specs.Fields.{field_bytes}
use Rattle.fields.proofs.Puts.{put-none, put-field}
use Rattle.parts.proofs.entries.EvidenceEntry.put_blank.Goals as goal

-- the puts, from the last back
pub returns : goal.returns
unfolding field_bytes
returns c = put-field c.put_low-at.ensures (put-field c.put_low-at-2.ensures (put-field c.put_low.ensures put-none))
