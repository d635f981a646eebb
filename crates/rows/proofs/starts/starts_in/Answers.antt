-- `starts_in` meets its contract, by whether a directory is listed.
use Rattle.rows.proofs.RowStarts.{nothing-listed}
use Rattle.rows.proofs.starts.starts_in.Goals as goal

pub returns-in-None : goal.returns-in-None
returns-in-None c = rw c.in-None.is (nothing-listed _)
