-- Tables of rings. A ring is 256 counts, one for each value of a byte; written twice, it can be read from any value on. Assumes nothing.
use Rattle.std.specs.Prelude.{◌≡◌, ℕ, ◌+◌, ◌*◌, ◌/◌, ◌%◌, ◌<◌, ◌≤◌, Bool, List, length, ◌==◌}
use Rattle.lists.specs.Bytes.{less, byte_at}
use Rattle.lists.specs.Cases.{pick}
use Rattle.lists.specs.Pieces.{each}
use Rattle.rings.specs.Class.{class_count, cap}

-- f 0, .., f 4095 in a buffer that has just that room; any other stays
abbrev pub if_room : List ℕ → (ℕ → ℕ) → List ℕ
if_room out f = pick (length out == 4096) (each f 4096) out

-- place i of sixteen rings: how many bytes of class i / 256 of sixteen are i % 256, shifted by the offset and by k a place, modulo 256. Bytes behind the last
-- whole sixteen are left out
abbrev pub tallied_at : List ℕ → ℕ → ℕ → ℕ → ℕ
tallied_at l offset k i = class_count l 16 (i / 256) offset k (length l / 16) (i % 256) % 256

unfoldable pub tallied : List ℕ → ℕ → ℕ → List ℕ → List ℕ
tallied l offset k out = if_room out (tallied_at l offset k)

-- eight rings, each twice: the upper eight of sixteen
abbrev pub doubled_at : List ℕ → ℕ → ℕ
doubled_at sixteen i = byte_at sixteen (2048 + i / 512 * 256 + i % 256)

unfoldable pub doubled : List ℕ → List ℕ → List ℕ
doubled sixteen out = if_room out (doubled_at sixteen)

-- eight rings, each twice: the sums, up to 255, of ring r of sixteen and ring r of eight that stand twice, read from x on
abbrev pub folded_at : List ℕ → List ℕ → ℕ → ℕ → ℕ
folded_at sixteen twice x i = cap (byte_at sixteen (i / 512 * 256 + i % 256) + byte_at twice (i / 512 * 512 + x + i % 256))

unfoldable pub folded : List ℕ → List ℕ → ℕ → List ℕ → List ℕ
folded sixteen twice x out = if_room out (folded_at sixteen twice x)

-- What private code needs: bytes noted, and a ring laid twice.

-- one more, modulo 256, for a value that is met
abbrev pub noted_in : ℕ → Bool → ℕ
noted_in x met = pick met ((x + 1) % 256) x

-- of sixteen bytes the first n are noted, each less `shift`, in the ring of its class
pub record Noted (l : List ℕ) (shift : ℕ) (before : List ℕ) (n : ℕ) (after : List ℕ) : Type 0 where
  pub size : length after ≡ length before
  pub new : (r v : ℕ) → r < n → v < 256 → byte_at after (r * 256 + v) ≡ noted_in (byte_at before (r * 256 + v)) (v == less (byte_at l r) shift)
  pub old : (r v : ℕ) → n ≤ r → v < 256 → byte_at after (r * 256 + v) ≡ byte_at before (r * 256 + v)

-- the sum, up to 255, of two rings at v, that of s from place a and that of t from place b on
abbrev pub sum_from : List ℕ → ℕ → List ℕ → ℕ → ℕ → ℕ
sum_from s a t b v = cap (byte_at s (a + v) + byte_at t (b + v))

-- f 0, .., f (n - 1) stand at `to` and once more 256 places on, and nothing before has changed
pub record Laid (f : ℕ → ℕ) (before : List ℕ) (to n : ℕ) (after : List ℕ) : Type 0 where
  pub size : length after ≡ length before
  pub low : (v : ℕ) → v < n → byte_at after (to + v) ≡ f v
  pub high : (v : ℕ) → v < n → byte_at after (to + 256 + v) ≡ f v
  pub under : (i : ℕ) → i < to → byte_at after i ≡ byte_at before i
