-- The rows as they are counted: as many as kept slots. Assumes nothing.
use Rattle.std.proofs.Common.{◌≡◌, ℕ, ◌+◌, ◌*◌, List, map, length, ap, ◌∙◌}
use Rattle.std.specs.List.{count_by}
use Rattle.lists.specs.Pieces.{keep}
use Rattle.slots.specs.Slots.{slot_value}
use Rattle.directory.specs.Directory.{slots_of}
use Rattle.directory.proofs.Inside.{count_kept}
use Rattle.rows.specs.Rows.{is_kept, rows_at}
use Rattle.rows.proofs.FarEnd.{rows-length}

pub rows-counted :
    (plain : List ℕ) (start count : ℕ) (slots : List (List ℕ))
    → map slot_value slots ≡ slots_of plain start count
    → count_by (λ s. is_kept start (start + 2 * count) (slot_value s)) slots ≡ length (rows_at plain start count)
rows-counted plain start count slots e =
    count_kept (is_kept start (start + 2 * count)) slots ∙ ap (λ (l : List ℕ). length (keep (is_kept start (start + 2 * count)) l)) e ∙ rows-length plain start count
