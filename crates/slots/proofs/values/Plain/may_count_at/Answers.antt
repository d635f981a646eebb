-- `may_count_at` meets its contract, test by test.
use Rattle.std.proofs.Common.{sym, ◌∙◌}
use Rattle.slots.proofs.Looks.{at_other, at-four, at-six}
use Rattle.slots.proofs.values.Plain.may_count_at.Goals as goal

pub returns-then-not-count_at : goal.returns-then-not-count_at
returns-then-not-count_at c = at_other _ _ _ _ _ c.count_at.ensures c.if-not-count_at.true

pub returns-then-is_array : goal.returns-then-is_array
returns-then-is_array c =
    at-four _ _ _ _ _ c.count_at.ensures c.if-not-count_at.false (sym c.is_array.ensures ∙ c.if-is_array.true)

pub returns : goal.returns
returns c =
    at-six _ _ _ _ _ c.count_at.ensures _ c.if-not-count_at.false (sym c.is_array.ensures ∙ c.if-is_array.false) c.is_array-2.ensures
