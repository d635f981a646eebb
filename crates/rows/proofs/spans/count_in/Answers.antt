-- `count_in` meets its contract: as many rows as kept slots.
use Rattle.std.proofs.Common.{◌∙◌}
use Rattle.rows.proofs.RowCounts.{rows-counted}
use Rattle.rows.proofs.spans.count_in.Goals as goal

pub returns-in-Some : goal.returns-in-Some
returns-in-Some c = rw c.in-Some.is (c.count_kept.ensures ∙ rows-counted c.args.plain.now c.in-Some.l.start c.in-Some.l.count c.slots_at.result.now (c.slots_at.ensures.slots (rw c.in-Some.is at c.requires).within))
