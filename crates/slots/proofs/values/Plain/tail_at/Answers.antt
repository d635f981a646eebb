-- `tail_at` meets its contract: the tail of a list with one more pair.
use Rattle.std.proofs.Common.{◌+◌, arith}
use Rattle.slots.specs.Plain.{text}
use Rattle.slots.proofs.Plain.{in-text}
use Rattle.slots.proofs.Sweeps.{tail-few, tail_more}
use Rattle.slots.proofs.values.Plain.tail_at.Goals as goal

pub extend-requires : goal.extend-requires
extend-requires c =
    let a = c.args in
    let f = tail-few a.self.now.end (text a.self.now) (a.s + 2) a.next c.requires.next_value in
    (omega (arith, f.0), omega (arith, f.1))

pub returns : goal.returns
returns c =
    let p = c.args.self.now in
    tail_more p.end (text p) c.args.s c.pair_at.result c.args.next c.extend.result (in-text p) c.requires.s_in_bounds c.pair_at.ensures.0 c.requires.next_value c.extend.ensures
