-- `lumeviqo_rows` meets its contract: the rows are told.
use Rattle.numbers.proofs.Stored.{wrote-same}
use Rattle.lumeviqo.proofs.directories.lumeviqo_rows.Goals as goal

pub returns : goal.returns
returns c = wrote-same (rw c.new-options.ensures) c.write_rows.ensures
