-- `next_field` meets its contract: past blocks, then field by field.
use Rattle.preludes.specs.Passes.{Passed}
use Rattle.preludes.proofs.search.Search.next_field.Given as goal

abbrev pub invariant-loop-at : goal.invariant-loop-at
invariant-loop-at l = Passed l.self.plain.now l.self.n l.from l.self.end l.at
