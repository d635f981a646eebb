-- private: no part of the layouts. What is put of all rows from the page. Assumes nothing.
use Rattle.std.specs.Prelude.{ℕ, ◌+◌, ◌*◌, ◌≤◌, ◌≡◌, List, length}
use Rattle.lists.specs.Pieces.{joined}
use Rattle.fields.specs.Fields.{pair_entry, Put}

-- where all rows start, put one behind the other; as many as slots, so at most 1,024
pub record StartsPut (rows out : List ℕ) (at : ℕ) (out_at_exit : List ℕ) (n : ℕ) : Type 0 where
  pub many : n ≡ length rows
  pub few : n ≤ 1024
  pub put : Put out at (joined (pair_entry rows) n) out_at_exit (at + 2 * n)
