-- `narrowed`: what a word leaves goes into the next, five times (`narrowed-in`).
use Rattle.checksum.proofs.Words.{narrowed-in}
use Rattle.crc.proofs.wide.narrowed.Goals as goal

pub returns : goal.returns
returns c =
    let a = c.args in
    narrowed-in a.octets.now a.i a.n1 a.n2 a.n3 a.n4 a.n5
    c.after_word-r1.result
    c.after_word-r2.result
    c.after_word-r3.result
    c.after_word-r4.result
    c.after_word.result
    c.requires
    c.ranges.n1.fits
    c.ranges.n2.fits
    c.ranges.n3.fits
    c.ranges.n4.fits
    c.ranges.n5.fits
    c.after_word-r1.type_inv
    c.after_word-r2.type_inv
    c.after_word-r3.type_inv
    c.after_word-r4.type_inv
    c.after_word-r1.ensures
    c.after_word-r2.ensures
    c.after_word-r3.ensures
    c.after_word-r4.ensures
    c.after_word.ensures
