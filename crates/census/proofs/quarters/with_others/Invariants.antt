-- Sector after sector the counts of those that are not exact are added.
use Rattle.std.proofs.Common.{◌≡◌, ℕ, ◌+◌, ◌%◌, ◌<◌}
use Rattle.lists.specs.Bytes.{byte_at}
use Rattle.lists.specs.Counts.{sum}
use Rattle.census.specs.Told.{other_count}
use Rattle.census.specs.Tables.{held}
use Rattle.census.proofs.quarters.with_others.Given as goal

abbrev pub invariant-loop-s : goal.invariant-loop-s
invariant-loop-s l = (v : ℕ) → v < 256 → held l.counts v % 65536 ≡ (byte_at l.fn.table v + sum (other_count l.fn.fits l.shifted v) l.s) % 65536
