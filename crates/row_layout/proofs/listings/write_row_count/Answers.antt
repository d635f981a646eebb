-- `write_row_count` meets its contract: the parts are put one behind the other.
use mathlib.Core.Path.{refl}
use native.Mathlib.Omega.{arith}
use Rattle.fields.specs.Fields.{field_bytes}
use Rattle.fields.proofs.Puts.{put-none, put-known, put_then, layout-short, layout-put}
use Rattle.row_layout.specs.RowLayouts.{row_count_fields}
use Rattle.row_layout.proofs.Sizes.{row-count-size}
use Rattle.row_layout.proofs.listings.write_row_count.Goals as goal

pub returns-then-out-lt-ROW_COUNT_SIZE : goal.returns-then-out-lt-ROW_COUNT_SIZE
returns-then-out-lt-ROW_COUNT_SIZE c = layout-short _ (row-count-size _ _) (omega arith)

pub returns : goal.returns
unfolding row_count_fields field_bytes
returns c = layout-put (row-count-size _ _) (put_then c.put_answer-at.ensures (put-known refl c.put_low.ensures put-none)) (omega arith)
