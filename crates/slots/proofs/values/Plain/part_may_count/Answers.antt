-- `part_may_count` meets its contract: nothing was seen at the positions so far.
use Rattle.std.proofs.Common.{sym, ◌∙◌}
use Rattle.slots.proofs.Looks.{may_more, may_at}
use Rattle.slots.proofs.values.Plain.part_may_count.Goals as goal

pub returns-then-may_count_at : goal.returns-then-may_count_at
returns-then-may_count_at c = sym (may_at _ _ _ _ _ c.loop-i-test.true (sym c.may_count_at.ensures ∙ c.if-may_count_at.true))

pub loop-i-preserved : goal.loop-i-preserved
loop-i-preserved c = may_more _ _ _ _ c.loop-i.invariant (sym c.may_count_at.ensures ∙ c.if-may_count_at.false)
