-- `put_starts` meets its contract: what `Listing` says holds from the far end on, and each row is put behind those before it.
use Rattle.lists.specs.Pieces.{joined}
use Rattle.fields.specs.Fields.{pair_entry, Put}
use Rattle.rows.specs.Rows.{rows_at}
use Rattle.rows.proofs.RowStarts.{Listing}
use Rattle.row_layout.proofs.listings.put_starts.Given as goal

abbrev pub invariant-loop-k : goal.invariant-loop-k
invariant-loop-k l =
    Listing l.plain l.start l.count l.stop l.k l.rows × Put l.initial.out l.at (joined (pair_entry (rows_at l.plain l.start l.count)) l.rows) l.out l.next
