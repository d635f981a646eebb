-- `put_choice` meets its contract: the parts are put one behind the other.
use Rattle.fields.specs.Fields.{field_bytes}
use Rattle.fields.proofs.Puts.{put-field, put-known, put_then}
use Rattle.parts.specs.Parts.{bvs_fields, grounds_fields}
use Rattle.layout.specs.Layouts.{choice_fields}
use Rattle.layout.proofs.decodings.put_choice.Goals as goal

pub returns : goal.returns
unfolding choice_fields field_bytes bvs_fields grounds_fields
returns c =
    put_then c.put_entry_list-at.ensures (
    put-field c.put-at.ensures (
    put-known c.number.ensures c.put-at-2.ensures (
    put-known c.number-2.ensures c.put-at-3.ensures c.put_entry_list.ensures)))
