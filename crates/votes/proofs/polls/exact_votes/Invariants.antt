-- Sector after sector the table tallies the votes so far.
use Rattle.votes.proofs.Ballots.{Polls}
use Rattle.votes.proofs.polls.exact_votes.Given as goal

abbrev pub invariant-loop-s : goal.invariant-loop-s
invariant-loop-s l = Polls l.shifted l.s l.votes l.total
