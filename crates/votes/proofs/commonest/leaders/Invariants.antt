-- The pass keeps the four greatest keys; the first is the top's, and the fourth tells the four commonest.
use Rattle.votes.proofs.Keys.{Four, key_at}
use Rattle.votes.proofs.commonest.leaders.Given as goal

abbrev pub invariant-loop-v : goal.invariant-loop-v
invariant-loop-v l = Four (key_at l.counts) l.v l.first l.second l.third l.fourth
