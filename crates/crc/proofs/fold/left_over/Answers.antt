-- `left_over`: one more octet is there a turn (`left-more`).
use mathlib.Core.Path.{subst}
use Prim.Native.Nat.{ℕ}
use native.Mathlib.Nat.{not-suc-le-zero}
use native.Mathlib.Omega.{arith}
use Rattle.crc.specs.Folds.{LeftOver}
use Rattle.crc.proofs.Folding.{left-more}
use Rattle.crc.proofs.fold.left_over.Goals as goal

pub loop-k-init : goal.loop-k-init
loop-k-init c = record { size = c.requires.2; so_far = λ k h. absurd (not-suc-le-zero h) }

pub loop-k-preserved : goal.loop-k-preserved
loop-k-preserved c =
    let l = c.loop-k in
    let r = c.args in
    left-more r.octets.now r.sums.now l.left r.j l.k (omega arith) l.invariant

pub returns : goal.returns
returns c =
    let l = c.loop-k in
    let r = c.args in
    subst (λ (k : ℕ). LeftOver r.octets.now r.sums.now l.left r.j k) (omega arith) l.invariant
