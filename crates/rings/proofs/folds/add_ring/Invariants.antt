-- `add_ring` meets its contract: the first v sums are laid twice.
use Rattle.std.proofs.Common.{◌+◌}
use Rattle.lists.specs.Bytes.{byte_at}
use Rattle.rings.specs.Class.{cap}
use Rattle.rings.specs.Table.{Laid}
use Rattle.rings.proofs.folds.add_ring.Given as goal

abbrev pub invariant-loop-v : goal.invariant-loop-v
invariant-loop-v l = Laid (λ k. cap (byte_at l.sixteen (l.a + k) + byte_at l.twice (l.b + k))) l.initial.out l.to l.v l.out
