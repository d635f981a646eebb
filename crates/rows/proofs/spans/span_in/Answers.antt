-- `span_in` meets its contract, by whether a directory is listed.
use Rattle.std.proofs.Common.{sym}
use Rattle.rows.proofs.RowAnswers.{no_rows}
use Rattle.rows.proofs.spans.span_in.Goals as goal

pub returns-in_err-l : goal.returns-in_err-l
returns-in_err-l c = rw (c.from_residual.ensures, c.in_err-l.was) (sym (no_rows _))
