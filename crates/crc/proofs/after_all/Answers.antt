-- `after_all`: at each turn the register, with the octets that are left, comes to the same (`chunk_in`, `rest_in`).
use mathlib.Core.Path.{refl, sym, ◌∙◌}
use native.Mathlib.Omega.{arith}
use lib.Dec.{lit<}
use lib.ListN.{length-take, length-drop}
use Rattle.checksum.proofs.Words.{chunk_in, rest_in}
use Rattle.crc.proofs.after_all.Goals as goal

pub loop-i-init : goal.loop-i-init
loop-i-init c = (omega arith, lit< tt, refl)

pub after_long-r-requires : goal.after_long-r-requires
after_long-r-requires c = simp (length-take, length-drop) (omega arith)

pub loop-i-preserved : goal.loop-i-preserved
loop-i-preserved c =
    let s = c.args.octets.now in
    let l = c.loop-i in
    (omega arith, c.after_long-r.type_inv, sym (chunk_in s l.i 4096 l.r c.after_long-r.result c.after_long-r.ensures) ∙ l.invariant.2)

pub after_long-requires : goal.after_long-requires
after_long-requires c = simp (length-take, length-drop) (omega arith)

pub returns-then-n-ge320 : goal.returns-then-n-ge320
returns-then-n-ge320 c =
    let s = c.args.octets.now in
    let l = c.loop-i in
    rest_in s l.i l.r c.after_long.result c.after_long.ensures ∙ l.invariant.2

pub returns : goal.returns
returns c =
    let s = c.args.octets.now in
    let l = c.loop-i in
    rest_in s l.i l.r c.after_medium.result c.after_medium.ensures ∙ l.invariant.2
