-- `fold_up_to`: one more octet is folded a turn (`folding-more`).
use mathlib.Core.Path.{subst}
use Prim.Native.Nat.{ℕ}
use native.Mathlib.Omega.{arith}
use Rattle.crc.specs.Folds.{Folding}
use Rattle.crc.proofs.Folding.{folding-more}
use Rattle.crc.proofs.fold.fold_up_to.Goals as goal

pub loop-j-init : goal.loop-j-init
loop-j-init c = c.requires.3

pub loop-j-preserved : goal.loop-j-preserved
loop-j-preserved c =
    let l = c.loop-j in
    let r = c.args in
    folding-more r.start r.octets.now l.sums l.j (omega arith) l.invariant

pub returns : goal.returns
returns c =
    let l = c.loop-j in
    let r = c.args in
    subst (λ (k : ℕ). Folding r.start r.octets.now l.sums k) (omega arith) l.invariant
