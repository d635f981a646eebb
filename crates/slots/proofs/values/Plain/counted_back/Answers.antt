-- `counted_back` meets its contract, test by test.
use Rattle.slots.proofs.RowCounts.{back-short, back_is}
use Rattle.slots.proofs.values.Plain.counted_back.Goals as goal

pub returns-then-start-back : goal.returns-then-start-back
returns-then-start-back c = back-short _ _ _ _ c.if-start-back.true

pub returns : goal.returns
returns c = back_is _ _ _ _ _ c.if-start-back.false c.count_at.ensures
