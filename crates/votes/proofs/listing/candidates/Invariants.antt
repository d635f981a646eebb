-- Value after value the table holds the candidates below it.
use mathlib.Core.Path.{◌≡◌}
use Rattle.votes.specs.Votes.{candidates_below, tabled}
use Rattle.votes.proofs.listing.candidates.Given as goal

abbrev pub invariant-loop-v : goal.invariant-loop-v
invariant-loop-v l = (l.found ≡ tabled (candidates_below l.limit l.shifted l.anchors l.n l.t l.v))
