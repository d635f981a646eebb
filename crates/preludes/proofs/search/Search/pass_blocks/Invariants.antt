-- `pass_blocks` meets its contract: each block has no field that holds n.
use Prim.Native.Nat.{◌-◌}
use Rattle.preludes.specs.Passes.{Passed}
use Rattle.preludes.proofs.search.Search.pass_blocks.Given as goal

abbrev pub invariant-loop-at : goal.invariant-loop-at
invariant-loop-at l = Passed l.self.plain.now l.self.n l.from l.self.end l.at

abbrev pub decreases-loop-at : goal.decreases-loop-at
decreases-loop-at l = l.self.end - l.at
