-- `put_rows` meets its contract: where the rows start, zeros behind them, and their number before them.
use native.Mathlib.Omega.{arith}
use Rattle.rows.specs.Rows.{rows_at}
use Rattle.fields.proofs.Puts.{layout-short}
use Rattle.row_layout.proofs.Sizes.{list-size}
use Rattle.row_layout.proofs.Starts.{rows-put}
use Rattle.row_layout.proofs.listings.put_rows.Goals as goal

pub returns-then-out-lt-LIST_SIZE : goal.returns-then-out-lt-LIST_SIZE
returns-then-out-lt-LIST_SIZE c =
    layout-short _ (list-size _) (omega arith)

pub returns-then-out-at : goal.returns-then-out-at
returns-then-out-at c =
    layout-short _ (list-size _) (omega arith)

pub returns : goal.returns
returns c =
    let a = c.args in
    rows-put (rows_at a.plain.now a.start a.count) a.out.now a.at c.put_starts-rows.result c.put_starts-rows.ensures.many c.put_starts-rows.ensures.few
    c.put_starts-rows.ensures.put c.put_zeros.ensures c.put_low.ensures (omega arith)
