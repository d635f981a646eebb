-- `starts_at` meets its contract: what `Listing` says holds from the far end on, and the buffer has the rows that are listed.
use mathlib.Core.Path.{◌≡◌}
use lib.ListN.{length, take}
use Rattle.lists.specs.Pieces.{over}
use Rattle.rows.specs.Rows.{rows_at}
use Rattle.rows.proofs.RowStarts.{Listing}
use Rattle.rows.proofs.starts.starts_at.Given as goal

abbrev pub invariant-loop-k : goal.invariant-loop-k
invariant-loop-k l =
    Listing l.plain l.start l.count l.stop l.k l.rows × (l.starts ≡ over l.initial.starts 0 (take l.rows (take (length l.initial.starts) (rows_at l.plain l.start l.count))))
