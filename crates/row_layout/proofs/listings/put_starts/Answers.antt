-- `put_starts` meets its contract: what `Listing` says holds from the far end on, and each row is put behind those before it.
use Rattle.std.proofs.Common.{◌≡◌, ◌+◌, ◌-◌, ◌*◌, ◌≤◌, ◌<◌, ℕ, length, sym, subst, ◌∙◌, arith}
use Rattle.lists.specs.Pieces.{joined}
use Rattle.fields.specs.Fields.{pair_entry, Put}
use Rattle.fields.proofs.Puts.{put-none, put-known}
use Rattle.fields.proofs.Tables.{table_none, table_more}
use Rattle.slots.proofs.Slices.{slot-there}
use Rattle.rows.specs.Rows.{rows_at}
use Rattle.rows.proofs.RowStarts.{list-none, list-skip, list_at, list-more, list_all}
use Rattle.row_layout.proofs.Starts.{starts-next}
use Rattle.row_layout.proofs.listings.put_starts.Goals as goal

pub loop-k-init : goal.loop-k-init
loop-k-init c =
    let a = c.args in
    (rw (c.slots_at-slots.ensures.long c.requires.0.within) (list-none _ _ _ c.requires.0.falls), table_none (pair_entry (rows_at a.plain.now a.start a.count)))

pub loop-k-preserved-then-is_kept : goal.loop-k-preserved-then-is_kept
loop-k-preserved-then-is_kept c =
    let a = c.args in
    let rows = rows_at a.plain.now a.start a.count in
    let kept = sym c.is_kept.ensures ∙ c.if-is_kept.true in
    let g = c.loop-k.invariant.0 in
    let some : 0 < c.loop-k.k = omega (arith, c.loop-k-test.true) in
    let is = c.pair_of-v.ensures.value ∙ slot-there a.plain.now a.start a.count c.slots_at-slots.result.now (c.loop-k.k - 1) _ (c.slots_at-slots.ensures.slots c.requires.0.within) (omega arith) in
    let at = list_at a.plain.now a.start a.count _ c.loop-k.k c.loop-k.rows g c.pair_of-v.result some is kept in (
      list-more a.plain.now a.start a.count _ c.loop-k.k c.loop-k.rows g c.pair_of-v.result some is kept,
      table_more (pair_entry rows) c.loop-k.invariant.1 (put-known (sym at) c.put_low-next.ensures put-none),
    )

pub loop-k-preserved : goal.loop-k-preserved
loop-k-preserved c =
    let a = c.args in
    let is = c.pair_of-v.ensures.value ∙ slot-there a.plain.now a.start a.count c.slots_at-slots.result.now (c.loop-k.k - 1) _ (c.slots_at-slots.ensures.slots c.requires.0.within) (omega arith) in
    (list-skip _ _ _ _ _ _ c.loop-k.invariant.0 _ (omega (arith, c.loop-k-test.true)) is (sym c.is_kept.ensures ∙ c.if-is_kept.false), c.loop-k.invariant.1)

pub returns : goal.returns
returns c =
    let a = c.args in
    let rows = rows_at a.plain.now a.start a.count in
    let many : c.loop-k.rows ≡ length rows = list_all _ _ _ _ _ _ c.loop-k.invariant.0 c.loop-k-test.false in
    let few : c.loop-k.rows ≤ 1024 = omega (arith, c.loop-k.invariant.0.within) in
    let next : c.loop-k.next ≡ a.at + 2 * c.loop-k.rows = starts-next rows a.out.now a.at c.loop-k.rows many few c.loop-k.invariant.1 (omega arith) in
    record {
      many = many;
      few = few;
      put = subst (λ (n : ℕ). Put a.out.now a.at (joined (pair_entry rows) c.loop-k.rows) c.loop-k.out n) next c.loop-k.invariant.1;
    }
