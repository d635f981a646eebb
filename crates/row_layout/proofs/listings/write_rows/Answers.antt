-- `write_rows` meets its contract: the answer part, and the rows of what is listed.
use Rattle.std.proofs.Common.{Some, None, Ok, Err, refl, arith}
use Rattle.answers.specs.Settings.{directory}
use Rattle.fields.proofs.Puts.{layout-short}
use Rattle.slotted.proofs.Meaning.{located-sound}
use Rattle.row_layout.proofs.Sizes.{rows-size}
use Rattle.row_layout.proofs.Wholes.{rows_decided}
use Rattle.row_layout.proofs.listings.write_rows.Goals as goal

pub returns-then-out-lt-ROWS_SIZE : goal.returns-then-out-lt-ROWS_SIZE
returns-then-out-lt-ROWS_SIZE c =
    layout-short _ (rows-size _ _) (omega arith)

pub put_listed-requires : goal.put_listed-requires
put_listed-requires c =
    let a = c.args in
    located-sound a.options.search_limit a.number a.plain.now (directory a.options) c.in-Ok.d (omega (arith, c.type_inv.plain 0xFF0)) c.in-Ok.ensures.decided

pub returns-in-Ok : goal.returns-in-Ok
returns-in-Ok c =
    let a = c.args in
    rows_decided a.options.search_limit a.number a.plain.now (directory a.options) (Ok c.in-Ok.d) c.in-Ok.ensures.decided
    None c.in-Ok.d.listed refl refl c.put_answer-at.ensures c.put_listed.ensures (omega arith)

pub returns-in-Err : goal.returns-in-Err
returns-in-Err c =
    let a = c.args in
    rows_decided a.options.search_limit a.number a.plain.now (directory a.options) (Err c.in-Err.refusal) c.in-Err.ensures.decided
    (Some c.in-Err.refusal) None refl refl c.put_answer-at-in-Err.ensures c.put_listed-in-Err.ensures (omega arith)
