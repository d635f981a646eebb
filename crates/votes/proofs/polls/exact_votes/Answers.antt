-- Sector after sector the table tallies the votes so far.
use borrow.Author.Rules.{rules}
use native.Mathlib.Omega.{arith}
use mathlib.Core.Path.{◌∙◌}
use Rattle.votes.proofs.Ballots.{exact-here, polls-none, polls-le, polls-few, polls-no, polls-yes, polls-as, polls-all}
use Rattle.votes.proofs.polls.exact_votes.Goals as goal
use Rattle.votes.proofs.polls.exact_votes.Goals.{then-all_same, else-all_same}

pub loop-s-init : goal.loop-s-init
loop-s-init c = polls-none _

pub overflow_add-votes : goal.overflow_add-votes
overflow_add-votes c =
    let p = c.loop-s.invariant in
    omega (arith, polls-le _ _ _ _ p c.from.result (search rules))

pub overflow_add-total : goal.overflow_add-total
overflow_add-total c = let p = c.loop-s.invariant in omega (arith, polls-few _ _ _ _ p)

pub loop-s-preserved : goal.loop-s-preserved
loop-s-preserved c =
    let l = c.loop-s in
    let x = exact-here c.args.shifted.now l.s c.sector_end-end.result c.all_same.result c.sector_end-end.ensures c.all_same.ensures in
    elim c.if-all_same.branch [
      | then-all_same w ↦ polls-as _ _ w.votes-is w.total-is (polls-yes _ _ _ _ l.invariant w.from.result (x ∙ w.if-all_same.true) w.from.ensures (search rules))
      | else-all_same w ↦ polls-as _ _ w.votes-is w.total-is (polls-no _ _ _ _ l.invariant (x ∙ w.if-all_same.false))
    ]

pub returns : goal.returns
returns c = let l = c.loop-s in polls-all _ _ l.votes l.total (omega arith) l.invariant
