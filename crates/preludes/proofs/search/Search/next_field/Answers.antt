-- `next_field` meets its contract: past blocks, then field by field.
use borrow.Author.Rules.{rules}
use mathlib.Core.Path.{sym, ◌∙◌}
use Rattle.preludes.proofs.Passing.{pass-one}
use Rattle.preludes.proofs.search.Search.next_field.Goals as goal

pub loop-at-preserved : goal.loop-at-preserved
loop-at-preserved c =
    pass-one _ _ _ _ _ c.loop-at.invariant _ c.pair_at.ensures.0 (search rules) (λ e. c.if-pair_at-from.false (e ∙ sym c.from.ensures))
