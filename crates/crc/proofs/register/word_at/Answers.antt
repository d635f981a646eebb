-- `word_at`: eight octets, each shifted to its place, are the number that they stand for (`value-eight`).
use mathlib.Core.Path.{sym, ap, ◌∙◌}
use Rattle.checksum.specs.Register.{value_of}
use Rattle.checksum.proofs.Octets.{value-eight, take-eight, eight_cells}
use Rattle.crc.proofs.register.word_at.Goals as goal

pub returns : goal.returns
returns c =
    let a = c.args in
    let r0 = c.octet_at in
    let r1 = c.octet_at-2 in
    let r2 = c.octet_at-3 in
    let r3 = c.octet_at-4 in
    let r4 = c.octet_at-5 in
    let r5 = c.octet_at-6 in
    let r6 = c.octet_at-7 in
    let r7 = c.octet_at-8 in
    value-eight r0.result r1.result r2.result r3.result r4.result r5.result r6.result r7.result
    r0.ensures.1 r1.ensures.1 r2.ensures.1 r3.ensures.1 r4.ensures.1 r5.ensures.1 r6.ensures.1 r7.ensures.1
    ∙ sym (ap value_of (take-eight a.octets.now a.i c.requires
    ∙ eight_cells (sym r0.ensures.0) (sym r1.ensures.0) (sym r2.ensures.0) (sym r3.ensures.0) (sym r4.ensures.0) (sym r5.ensures.0) (sym r6.ensures.0) (sym r7.ensures.0)))
