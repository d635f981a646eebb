-- `put_given` meets its contract: how many, and the places.
use Rattle.fields.specs.Fields.{field_bytes}
use Rattle.fields.proofs.Puts.{put-field}
use Rattle.parts.specs.Parts.{warnings_fields}
use Rattle.parse_layout.specs.FromPage.{given_fields}
use Rattle.parse_layout.proofs.put_given.Goals as goal

pub returns : goal.returns
unfolding given_fields warnings_fields field_bytes
returns c = put-field c.put_low-at.ensures c.put_entries.ensures
