-- The puts are the fields.
use Rattle.fields.specs.Fields.{field_bytes}
use Rattle.fields.proofs.Puts.{put-none, put-field, put-known}
use Rattle.layout.specs.Layouts.{record_fields}
use Rattle.layout.proofs.pages.PageTrailerRecord.put.Goals as goal

pub returns : goal.returns
unfolding record_fields field_bytes
returns c =
    put-field c.put-at.ensures (
    put-known c.as_byte.ensures c.put-at-2.ensures (
    put-known c.type_number.ensures c.put-at-3.ensures (
    put-field c.put-at-4.ensures (
    put-field c.put-at-5.ensures (
    put-field c.put-at-6.ensures (
    put-field c.put.ensures put-none))))))
