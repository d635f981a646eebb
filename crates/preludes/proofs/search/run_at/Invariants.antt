-- `run_at` meets its contract: what `Going` says holds while the run is read.
use Prim.Native.Nat.{◌+◌, ◌*◌}
use Rattle.preludes.proofs.Runs.{Going}
use Rattle.preludes.proofs.search.run_at.Given as goal

abbrev pub invariant-loop-k : goal.invariant-loop-k
invariant-loop-k l = Going l.end l.plain l.at l.prev l.k l.live (l.at + 2 * l.k)
