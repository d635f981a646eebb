-- `write_row` meets its contract: the parts are put one behind the other.
use native.Mathlib.Omega.{arith}
use Rattle.fields.proofs.Puts.{put-none, put-known, put_then, layout-short, layout-put}
use Rattle.row_layout.specs.RowLayouts.{row_fields}
use Rattle.row_layout.proofs.Sizes.{row-size}
use Rattle.row_layout.proofs.listings.write_row.Goals as goal

pub returns-then-out-lt-ROW_SIZE : goal.returns-then-out-lt-ROW_SIZE
returns-then-out-lt-ROW_SIZE c = layout-short _ (row-size _ _) (omega arith)

pub returns : goal.returns
unfolding row_fields
returns c =
    layout-put (row-size c.args.x c.args.span)
    (put_then c.put_answer-at.ensures (
    put-known c.start_of-start.ensures c.put_low-at.ensures (
    put-known c.end_of-end.ensures c.put_low.ensures put-none)))
    (omega arith)
