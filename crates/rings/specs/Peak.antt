-- The greatest sum of eight rings, for four steps at once: s, s + 64, s + 128 and s + 192. Assumes nothing.
use Rattle.std.specs.Prelude.{ℕ, ◌+◌, ◌*◌, ◌%◌, List, length, ◌==◌}
use Rattle.lists.specs.Bytes.{byte_at}
use Rattle.lists.specs.Cases.{pick}
use Rattle.lists.specs.Counts.{greatest, sum}
use Rattle.rings.specs.Class.{cap}
use Rattle.rings.specs.declared.quads.Quad.{Quad}

-- ring r of eight that stand twice, at y, read from r times s on, modulo 256
abbrev pub ring_at : List ℕ → ℕ → ℕ → ℕ → ℕ
ring_at eight s r y = byte_at eight (r * 512 + r * s % 256 + y)

-- their sum at v, up to 255, under step s + 64 q: ring r is turned further by r times q quarters
unfoldable pub sum_at : List ℕ → ℕ → ℕ → ℕ → ℕ
sum_at eight s q v = cap (sum (λ r. ring_at eight s r ((v + 64 * (r * q)) % 256)) 8)

-- the greatest of these sums
unfoldable pub peak_at : List ℕ → ℕ → ℕ → ℕ
peak_at eight s q = greatest (sum_at eight s q) 256

-- what a table of another length gives
abbrev pub no_peaks : Quad
no_peaks = record { a = 0; b = 0; c = 0; d = 0 }

-- those of the steps s, s + 64, s + 128 and s + 192
unfoldable pub peaks_of : List ℕ → ℕ → Quad
peaks_of eight s =
    pick (length eight == 4096) (record { a = peak_at eight s 0; b = peak_at eight s 1; c = peak_at eight s 2; d = peak_at eight s 3 }) no_peaks
