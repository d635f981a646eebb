-- `fold` meets its contract: the first r rings of sums stand twice.
use Rattle.std.proofs.Common.{◌+◌, ◌*◌}
use Rattle.lists.specs.Bytes.{byte_at}
use Rattle.rings.specs.Class.{cap}
use Rattle.rings.proofs.Laid.{Rings}
use Rattle.rings.proofs.folds.fold.Given as goal

abbrev pub invariant-loop-r : goal.invariant-loop-r
invariant-loop-r l = Rings (λ k v. cap (byte_at l.sixteen (k * 256 + v) + byte_at l.twice (k * 512 + l.x + v))) l.r l.out
