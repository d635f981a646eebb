-- `double` meets its contract: the first r rings stand twice.
use Rattle.std.proofs.Common.{◌+◌, ◌*◌}
use Rattle.lists.specs.Bytes.{byte_at}
use Rattle.rings.proofs.Laid.{Rings}
use Rattle.rings.proofs.folds.double.Given as goal

abbrev pub invariant-loop-r : goal.invariant-loop-r
invariant-loop-r l = Rings (λ k v. byte_at l.sixteen (2048 + k * 256 + v)) l.r l.out
