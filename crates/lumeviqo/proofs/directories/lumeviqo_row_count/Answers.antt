-- `lumeviqo_row_count` meets its contract: what was counted is told.
use Rattle.numbers.proofs.Stored.{wrote-same}
use Rattle.lumeviqo.proofs.directories.lumeviqo_row_count.Goals as goal

pub returns : goal.returns
returns c = wrote-same (rw (c.err.ensures.value, c.unwrap_or.ensures, c.rows_counted-counted.ensures, c.new-options.ensures)) c.write_row_count.ensures
