-- `put_directory` meets its contract, by whether a directory is listed.
use Rattle.parse_layout.proofs.Slots.{no-directory}
use Rattle.parse_layout.proofs.put_directory.Goals as goal

pub returns-in-None : goal.returns-in-None
returns-in-None c = rw c.in-None.is (no-directory c.args.plain.now c.put_zeros.ensures)
