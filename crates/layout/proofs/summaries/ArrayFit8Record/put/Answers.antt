-- The eight fits are a table.
use Rattle.parts.specs.Parts.{fits_fields}
use Rattle.layout.proofs.summaries.ArrayFit8Record.put.Goals as goal

pub returns : goal.returns
unfolding fits_fields
returns c = c.put_entries.ensures
