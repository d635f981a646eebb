-- The exact sectors, and the others where there are any.
use mathlib.Core.Path.{◌∙◌}
use borrow.Author.Rules.{rules}
use Rattle.census.proofs.Noted.{noted-none, noted-most}
use Rattle.census.proofs.Truth.{tallied-not, tallied-is, all-exact, with-others}
use Rattle.census.proofs.pages.count_page.Goals as goal

pub returns-then-shifted-ne4080 : goal.returns-then-shifted-ne4080
returns-then-shifted-ne4080 c = tallied-not _ _ (search rules)

pub note_exact-total-requires-clause-noted : goal.note_exact-total-requires-clause-noted
note_exact-total-requires-clause-noted c = noted-none _ _

pub returns-then-total-eq8 : goal.returns-then-total-eq8
returns-then-total-eq8 c =
    let n = c.note_exact-total in
    all-exact _ _ _ _ n.result n.ensures (search rules) ∙ tallied-is _ _ (search rules)

pub with_others-counts-requires-clause-at_most : goal.with_others-counts-requires-clause-at_most
with_others-counts-requires-clause-at_most c =
    let n = c.note_exact-total in
    noted-most _ _ _ _ n.result n.ensures

pub returns : goal.returns
returns c =
    let n = c.note_exact-total in
    with-others _ _ _ _ n.result n.ensures _ c.with_others-counts.ensures ∙ tallied-is _ _ (search rules)
