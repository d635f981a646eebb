-- private: no part of the rules. What the scan keeps on its one pass from the limit down to 0; its promise is `scanned_directory`. Assumes nothing.
use Rattle.std.specs.Prelude.{ℕ, ◌+◌, ◌*◌, Bool, true, false, ◌&&◌, List, [], ◌∷◌, ◌==◌, nat_le, nat_lt}
use Rattle.lists.specs.Cases.{pick}
use Rattle.slots.specs.Slots.{is_offset, stronger}
use Rattle.slots.specs.declared.scans.Scan.{Scan}
use Rattle.slots.specs.declared.scans.Tail.{Tail}

-- no run: its value is above every offset, so that nothing extends it
abbrev pub no_tail : Tail
no_tail = record { value = 0xFF0; gap = 0; slots = 0; live = 0 }

-- the run at the first pair that is not zero: its value, the zero pairs before it, its slots and live slots.
-- By whether w is zero, is an offset, and is above the offset that comes next
abbrev pub extended_by : Bool → Bool → Bool → ℕ → Tail → Tail
extended_by true b c w t = record { value = t.value; gap = t.gap + 1; slots = t.slots; live = t.live }
extended_by false false c w t = no_tail
extended_by false true false w t = record { value = w; gap = 0; slots = 1; live = 1 }
extended_by false true true w t = record { value = w; gap = 0; slots = t.gap + t.slots + 1; live = t.live + 1 }

unfoldable pub extended : ℕ → Tail → Tail
extended w t = extended_by (w == 0) (is_offset w) (nat_lt t.value w) w t

unfoldable pub tail_of : List ℕ → Tail
tail_of [] = no_tail
tail_of (w ∷ ws) = extended w (tail_of ws)

-- the scan from s, of the tail at s
abbrev pub empty_scan : ℕ → Scan
empty_scan s = record { start = s; slots = 0; live = 0 }

unfoldable pub tail_scan : ℕ → Tail → Scan
tail_scan s t = pick (nat_le 1 t.live && nat_le t.gap 1) (record { start = s + 2 * t.gap; slots = t.slots; live = t.live }) (empty_scan s)

-- the better of the scan from a start and the best of the later ones, if it has four live slots
unfoldable pub stronger_kept : Scan → Scan → Scan
stronger_kept b best = pick (nat_le 4 b.live) (stronger b best) best
