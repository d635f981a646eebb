-- `after_long`: what is left over has the register of the whole (`folding-done`).
use mathlib.Core.Path.{◌∙◌}
use native.Mathlib.Omega.{arith}
use Prim.Native.Nat.{◌-◌, ◌≤◌}
use lib.ListN.{length}
use Rattle.crc.proofs.Folding.{folding-none, folding-done}
use Rattle.crc.proofs.fold.after_long.Goals as goal

pub fold_up_to-requires : goal.fold_up_to-requires
fold_up_to-requires c =
    let r = c.args in (
      omega arith,
      omega arith,
      omega arith,
      folding-none r.start r.octets.now c.low_octet.result c.low_octet-2.result c.low_octet-3.result c.low_octet-4.result
          c.low_octet.ensures c.low_octet-2.ensures c.low_octet-3.ensures c.low_octet-4.ensures,
    )

pub returns : goal.returns
returns c =
    let s = c.args.octets.now in
    let l = c.left_over in
    let f = c.fold_up_to in
    let h0 : 304 ≤ length s = c.requires.0 in
    let h1 : length s ≤ 4096 = c.requires.1 in
    c.after_medium.ensures
    ∙ folding-done c.args.start c.ranges.start.fits s f.new.sums l.new.left (length s - 4) (omega arith) (omega arith) h1 f.ensures l.ensures
