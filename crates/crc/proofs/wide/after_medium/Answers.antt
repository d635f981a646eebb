-- `after_medium`: at each turn the register of 320 bits, with the octets that are left, comes to the same (`turned`).
use mathlib.Core.Path.{◌≡◌, sym, ap, ◌∙◌}
use Prim.Native.Nat.{ℕ, ◌+◌, ◌≤◌, ◌<◌, ◌^◌}
use native.Mathlib.Nat.{zero-add}
use native.Mathlib.Omega.{arith}
use lib.Bits.{bit_xor, xor_lt}
use lib.Dec.{lit<}
use lib.ListN.{length}
use Rattle.checksum.specs.Register.{register_after, wide_register}
use Rattle.checksum.proofs.WideTurn.{turned, turned-words}
use Rattle.crc.proofs.wide.after_medium.Goals as goal

start : (c : ℕ) → wide_register c 0 0 0 0 ≡ c
unfolding wide_register
start c = zero-add c

pub returns-then-n-lt40 : goal.returns-then-n-lt40
returns-then-n-lt40 c = c.after_short.ensures

pub loop-i-init : goal.loop-i-init
loop-i-init c = (
  omega arith,
  omega arith,
  record { l1 = omega (arith, c.ranges.start.fits); l2 = lit< tt; l3 = lit< tt; l4 = lit< tt; l5 = lit< tt },
  ap (λ (x : ℕ). register_after x c.args.octets.now) (start c.from-n1.result ∙ c.from-n1.ensures),
)

pub loop-i-preserved : goal.loop-i-preserved
loop-i-preserved c =
    let a = c.args in
    let l = c.loop-i in
    let w = c.word_at.result in
    let h : l.i + 48 ≤ length a.octets.now = omega arith in
    let hw : w < 2 ^ 64 = c.word_at.type_inv in (
      omega arith,
      omega arith,
      turned-words l.n1 l.n2 l.n3 l.n4 l.n5 (bit_xor w l.n1) l.invariant.2 (xor_lt 64 w l.n1 hw l.invariant.2.l1),
      sym (turned a.octets.now l.i l.n1 l.n2 l.n3 l.n4 l.n5 w h l.invariant.2 c.word_at.ensures hw) ∙ l.invariant.3,
    )

pub returns : goal.returns
returns c = c.after_octets.ensures ∙ sym c.narrowed-r.ensures ∙ c.loop-i.invariant.3
