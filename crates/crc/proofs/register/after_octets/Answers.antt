-- `after_octets`: at each turn the register, with the octets that are left, comes to the same (`octet-in`).
use mathlib.Core.Path.{refl, sym, ap, ◌∙◌}
use Prim.Native.Nat.{ℕ, ◌+◌, ◌<◌}
use native.Mathlib.Omega.{arith}
use lib.ListN.{length, get_or, drop, drop_of_length-le}
use Rattle.checksum.specs.Register.{register_after}
use Rattle.checksum.proofs.Words.{octet-in, register-none}
use Rattle.crc.proofs.register.after_octets.Goals as goal

pub loop-k-init : goal.loop-k-init
loop-k-init c = refl

pub loop-k-preserved : goal.loop-k-preserved
loop-k-preserved c =
    let a = c.args in
    let l = c.loop-k in
    let h : l.k < length a.octets.now = omega arith in
    let hb : get_or a.octets.now l.k 0 < 256 = omega arith in
    ap (λ (x : ℕ). register_after x (drop (l.k + 1) a.octets.now)) c.after_octet-r.ensures ∙ sym (octet-in a.octets.now l.k l.r h hb) ∙ l.invariant

pub returns : goal.returns
returns c =
    let a = c.args in
    let l = c.loop-k in
    sym (ap (register_after l.r) (drop_of_length-le a.octets.now c.loop-k-test.false) ∙ register-none l.r) ∙ l.invariant
