-- `after_short`: at each turn the register, with the octets that are left, comes to the same (`eight-in`).
use mathlib.Core.Path.{refl, sym, ◌∙◌}
use Prim.Native.Nat.{◌+◌, ◌≤◌}
use native.Mathlib.Omega.{arith}
use lib.ListN.{length}
use Rattle.checksum.proofs.Words.{eight-in}
use Rattle.crc.proofs.register.after_short.Goals as goal

pub loop-i-init : goal.loop-i-init
loop-i-init c = (omega arith, c.ranges.start.fits, refl)

pub loop-i-preserved : goal.loop-i-preserved
loop-i-preserved c =
    let l = c.loop-i in
    let s = c.args.octets.now in
    let h : l.i + 8 ≤ length s = omega arith in
    (h, c.after_word-r.type_inv, sym (eight-in s l.i l.r c.after_word-r.result h l.invariant.1 c.after_word-r.ensures) ∙ l.invariant.2)

pub returns : goal.returns
returns c = c.after_octets.ensures ∙ c.loop-i.invariant.2
