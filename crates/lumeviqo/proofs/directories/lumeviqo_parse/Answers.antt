-- `lumeviqo_parse` meets its contract: the parse is told.
use Rattle.numbers.proofs.Stored.{wrote-same}
use Rattle.lumeviqo.proofs.directories.lumeviqo_parse.Goals as goal

pub returns : goal.returns
returns c = wrote-same (rw c.new-options.ensures) c.write_parse.ensures
