-- Document 02, #104: the line through the first two bytes of a sector, and the first byte off it. No offset and no page number play a part. Assumes nothing.
use Rattle.std.specs.Prelude.{◌≡◌, ℕ, ◌+◌, ◌*◌, ◌/◌, ◌%◌, ◌<◌, ◌≤◌, true, not, List, length, ◌==◌}
use Rattle.lists.specs.Bytes.{less, byte_at}
use Rattle.lists.specs.Counts.{least}
use Rattle.sector.specs.declared.fits.Fit.{Fit}

-- byte i of the line that begins with x and goes on in steps of k, modulo 256
abbrev pub line_at : ℕ → ℕ → ℕ → ℕ
line_at x k i = (x + i * k) % 256

-- the first place of a list that is off that line; the length where none is
unfoldable pub off_at : ℕ → ℕ → List ℕ → ℕ
off_at x k l = least (λ i. not (byte_at l i == line_at x k i)) (length l)

-- the first n bytes are on it
pub record OnLine (x k : ℕ) (l : List ℕ) (n : ℕ) : Type 0 where
  pub within : n ≤ length l
  pub at : (i : ℕ) → i < n → byte_at l i ≡ line_at x k i

-- the step of the first two bytes: byte 1 - byte 0, modulo 256
abbrev pub first_step : List ℕ → ℕ
first_step l = less (byte_at l 1) (byte_at l 0)

-- the first place off the line through the first two bytes, byte 0 + i (byte 1 - byte 0); the length where none is
unfoldable pub break_at : List ℕ → ℕ
break_at l = off_at (byte_at l 0) (first_step l) l

-- the fit of a sector of n bytes that are all on it
abbrev pub exact_fit : ℕ → ℕ → Fit
exact_fit step n = record { step = step; peak = n; runner_up = (n + 1) / 2; exact = true; tied = 1 }
