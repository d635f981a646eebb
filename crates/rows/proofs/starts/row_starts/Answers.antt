-- `row_starts` meets its contract: the rows of what the parse lists, or its refusal and no row.
use Rattle.std.proofs.Common.{◌≡◌, Err, rules}
use Rattle.answers.specs.Settings.{directory}
use Rattle.rows.proofs.RowStarts.{starts-refused, starts-decided}
use Rattle.rows.proofs.starts.row_starts.Goals as goal

pub returns-in_err-d : goal.returns-in_err-d
returns-in_err-d c =
    let a = c.args in
    let e : c.from_residual.result ≡ Err c.in_err-d.field-0.0 = search rules in
    rw e (starts-refused a.options.search_limit a.number a.plain.now (directory a.options) _ _ c.in_err-d.ensures.decided)

pub returns : goal.returns
returns c =
    let a = c.args in
    starts-decided a.options.search_limit a.number a.plain.now (directory a.options) _ _ c.in_ok-d.d c.starts_in.result c.in_ok-d.ensures.decided c.starts_in.ensures
