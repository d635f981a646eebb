-- `has_pair` meets its contract: after i turns it has seen the pairs at 0, .., i - 1.
use Rattle.std.proofs.Common.{◌≡◌}
use Rattle.slots.specs.Plain.{text}
use Rattle.slots.specs.Pairs.{has_pair}
use Rattle.slots.proofs.values.Plain.has_pair.Given as goal

abbrev pub invariant-loop-i : goal.invariant-loop-i
invariant-loop-i l = l.seen ≡ has_pair l.n 0 (text l.self) l.i
