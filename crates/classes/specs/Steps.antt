-- What private code needs: sectors that are sixteen classes of one size, and a table of counts that is filled for some steps at a time. Assumes nothing.
use Rattle.std.specs.Prelude.{ℕ, ◌*◌, ◌/◌, ◌%◌, ◌≤◌, ◌<◌, ◌≡◌, List, length}
use Rattle.lists.specs.Bytes.{byte_at}
use Rattle.lists.specs.Pieces.{each}
use Rattle.rings.specs.Peak.{peak_at}
use Rattle.rings.specs.Table.{folded_at}

-- sixteen classes of one size, of 32 bytes at most
pub record Sixteens (l : List ℕ) : Type 0 where
  pub whole : length l % 16 ≡ 0
  pub short : length l ≤ 512

-- the table has f k at each place k with k % g = m, and elsewhere what it had
pub record Fills (f : ℕ → ℕ) (g m : ℕ) (before after : List ℕ) : Type 0 where
  pub size : length after ≡ length before
  pub new : (k : ℕ) → k < 256 → k % g ≡ m → byte_at after k ≡ f k
  pub old : (k : ℕ) → k < 256 → (k % g ≡ m → ⊥) → byte_at after k ≡ byte_at before k

-- the eight rings that sixteen give for the steps that are s modulo 32
abbrev pub folded_for : List ℕ → List ℕ → ℕ → List ℕ
folded_for sixteen twice s = each (folded_at sixteen twice (s * 8)) 4096

-- the greatest sum of eight rings under step k
abbrev pub step_peak : List ℕ → ℕ → ℕ
step_peak eight k = peak_at eight (k % 64) (k / 64)
