-- `put_listed` meets its contract, by whether a directory is listed.
use Rattle.row_layout.proofs.Starts.{no-rows}
use Rattle.row_layout.proofs.listings.put_listed.Goals as goal

pub returns-in-None : goal.returns-in-None
returns-in-None c = rw c.in-None.is (no-rows c.put_zeros.ensures)
