-- `starts_at` meets its contract: what `Listing` says holds from the far end on, and the buffer has the rows that are listed.
use mathlib.Core.Path.{sym, ◌∙◌}
use Rattle.rows.specs.Rows.{rows_at}
use Rattle.rows.proofs.RowStarts.{list-none, list-skip, list-below, list_at, list-more, list_all, starts_none, starts-put, starts-full, starts-done}
use Rattle.rows.proofs.starts.starts_at.Goals as goal
use Rattle.rows.proofs.starts.starts_at.Goals.{then-rows-starts, else-rows-starts}

pub loop-k-init : goal.loop-k-init
loop-k-init c =
    let a = c.args in
    (list-none _ _ _ c.requires.falls, starts_none (rows_at a.plain.now a.start a.count) _)

pub loop-k-preserved-then-is_kept : goal.loop-k-preserved-then-is_kept
loop-k-preserved-then-is_kept c =
    let a = c.args in
    let rows = rows_at a.plain.now a.start a.count in
    let v = c.pair_at-v.result in
    let some = c.loop-k-test.true in
    let is = c.pair_at-v.ensures.0 in
    let kept = sym c.is_kept.ensures ∙ c.if-is_kept.true in
    let g = c.loop-k.invariant.0 in
    let below = list-below a.plain.now a.start a.count _ c.loop-k.k c.loop-k.rows g v some is kept in
    let at = list_at a.plain.now a.start a.count _ c.loop-k.k c.loop-k.rows g v some is kept in (
      list-more a.plain.now a.start a.count _ c.loop-k.k c.loop-k.rows g v some is kept,
      elim c.if-rows-starts.branch [
        | then-rows-starts w ↦ w.starts-is ∙ starts-put rows a.starts.now c.loop-k.starts c.loop-k.rows c.loop-k.invariant.1 v below at w.if-rows-starts.true
        | else-rows-starts w ↦ w.starts-is ∙ starts-full rows a.starts.now c.loop-k.starts c.loop-k.rows c.loop-k.invariant.1 w.if-rows-starts.false
      ],
    )

pub loop-k-preserved : goal.loop-k-preserved
loop-k-preserved c =
    (list-skip _ _ _ _ _ _ c.loop-k.invariant.0 _ c.loop-k-test.true c.pair_at-v.ensures.0 (sym c.is_kept.ensures ∙ c.if-is_kept.false), c.loop-k.invariant.1)

pub returns : goal.returns
returns c =
    let e = list_all _ _ _ _ _ _ c.loop-k.invariant.0 c.loop-k-test.false in
    record { many = e; written = starts-done _ _ _ _ c.loop-k.invariant.1 e }
