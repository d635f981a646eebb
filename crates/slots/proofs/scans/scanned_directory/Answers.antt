-- `scanned_directory` meets its contract: a limit past the bytes is their end.
use Rattle.slots.proofs.Limits.{scanned_min}
use Rattle.slots.proofs.scans.scanned_directory.Goals as goal

pub returns : goal.returns
returns c = let e = c.new.ensures in scanned_min _ _ _ _ _ e.end (rw (← e.text) c.sweep.ensures)
