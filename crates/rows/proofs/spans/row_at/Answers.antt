-- `row_at` meets its contract: a row lies within the page.
use Rattle.rows.proofs.RowAnswers.{row_within}
use Rattle.rows.proofs.spans.row_at.Goals as goal

pub part_of-requires : goal.part_of-requires
part_of-requires c = row_within _ _ _ _ _ c.row_span-span.ensures
