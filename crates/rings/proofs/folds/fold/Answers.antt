-- `fold` meets its contract: the first r rings of sums stand twice.
use Rattle.std.proofs.Common.{ℕ, ap, ◌∙◌, arith}
use Rattle.rings.specs.Table.{folded}
use Rattle.rings.proofs.Rooms.{room-other}
use Rattle.rings.proofs.Laid.{rings-all}
use Rattle.rings.proofs.folds.fold.Goals as goal

pub returns-then-out-ne4096 : goal.returns-then-out-ne4096
unfolding folded
returns-then-out-ne4096 c = room-other _ _ c.if-out-ne4096.true

pub returns : goal.returns
unfolding folded
returns c =
    let l = c.loop-r in
    let a = c.args in
    rings-all _ a.out.now l.r l.out (omega arith) (omega arith) l.invariant
    ∙ ap (λ (x : ℕ). folded a.sixteen.now a.twice.now x a.out.now) c.from-x.ensures
