-- `has_count` meets its contract: the positions are those below the limit that have a byte behind them.
use Rattle.std.proofs.Common.{length, ap, arith}
use Rattle.slots.specs.Plain.{text}
use Rattle.slots.proofs.RowCounts.{pair-to}
use Rattle.slots.proofs.pairs.has_count.Goals as goal

pub returns : goal.returns
returns c =
    let e = c.new.ensures in
    rw (← e.text) (pair-to c.args.n 0 (text c.new.result) _ _ _ (omega (arith, e.end, ap length e.bytes)) c.has_pair.ensures)
