-- `histogram` meets its contract: the table tallies the bytes that were seen.
use Rattle.std.proofs.Common.{◌≡◌, length, take}
use Rattle.lists.specs.Counts.{Tallies}
use Rattle.sector.proofs.scan.histogram.Given as goal

abbrev pub invariant-loop-x : goal.invariant-loop-x
invariant-loop-x l = (length l.hist ≡ 256) × Tallies 256 l.hist (take l.x-index l.bytes)
