-- The puts are the fields.
use Rattle.fields.specs.Fields.{field_bytes}
use Rattle.fields.proofs.Puts.{put-none, put-field}
use Rattle.layout.specs.Layouts.{header_fields}
use Rattle.layout.proofs.pages.SuperblockRecord.put.Goals as goal

pub returns : goal.returns
unfolding header_fields field_bytes
returns c =
    put-field c.put-at.ensures (
    put-field c.put-at-2.ensures (
    put-field c.put-at-3.ensures (
    put-field c.put-at-4.ensures (
    put-field c.put-at-5.ensures (
    put-field c.put-at-6.ensures (
    put-field c.put-at-7.ensures (
    put-field c.put-at-8.ensures (
    put-field c.put.ensures put-none))))))))
