-- `put_entry_list` meets its contract: how many, and then the places.
use Rattle.fields.specs.Fields.{field_bytes}
use Rattle.fields.proofs.Puts.{put-field}
use Rattle.parts.proofs.tables.put_entry_list.Goals as goal

pub returns : goal.returns
unfolding field_bytes
returns g c = put-field c.put_low-at.ensures c.put_entries.ensures
