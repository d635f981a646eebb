-- `lumeviqo_row` meets its contract: what was found is told.
use Rattle.numbers.proofs.Stored.{wrote-same}
use Rattle.lumeviqo.proofs.directories.lumeviqo_row.Goals as goal

pub returns : goal.returns
returns c = wrote-same (rw (c.err.ensures.value, c.ok.ensures.value, c.row_found-found.ensures, c.new-options.ensures)) c.write_row.ensures
