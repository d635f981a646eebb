-- The engine's table of counts, in the words of `rings`: what `capped_counts` gives. Assumes nothing.
use Rattle.std.specs.Prelude.{ℕ, ◌*◌, ◌%◌, List}
use Rattle.lists.specs.Pieces.{each}
use Rattle.rings.specs.Table.{tallied_at, doubled_at}
use Rattle.classes.specs.Steps.{folded_for, step_peak}

-- for step k: the rings of sixteen classes, by k modulo 16, and the upper eight of them, twice
abbrev pub sixteen_for : ℕ → List ℕ → ℕ → List ℕ
sixteen_for offset l k = each (tallied_at l offset (k % 16 * 16)) 4096

abbrev pub twice_for : ℕ → List ℕ → ℕ → List ℕ
twice_for offset l k = each (doubled_at (sixteen_for offset l k)) 4096

-- the greatest sum of the eight rings that both give, by k modulo 32
unfoldable pub engine_at : ℕ → List ℕ → ℕ → ℕ
engine_at offset l k = step_peak (folded_for (sixteen_for offset l k) (twice_for offset l k) (k % 32)) k
