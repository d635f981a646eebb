-- A value of bv is one field.
use Rattle.fields.specs.Fields.{field_bytes}
use Rattle.fields.proofs.Puts.{put-none, put-field}
use Rattle.parts.proofs.entries.U8Entry.put_at.Goals as goal

pub returns : goal.returns
unfolding field_bytes
returns c = put-field c.put.ensures put-none
