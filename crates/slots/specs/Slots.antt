-- Document 01, "Slots and rows": slot values, the scan and the row-count test, on the bytes `plain` of a page. `lim` is the search limit, where
-- document 01 has 0x300: starts go from 0 to lim - 1. The scan and the row-count test take any number. Assumes nothing.
use Rattle.std.specs.Prelude.{Option, Some, None, ℕ, zero, suc, ◌+◌, ◌-◌, ◌*◌, Bool, false, ◌&&◌, ◌||◌, List, [], ◌∷◌, length, take, drop, ◌==◌, nat_le, nat_lt}
use Rattle.lists.specs.Cases.{pick}
use Rattle.lists.specs.Bytes.{byte_at, pair_at}
use Rattle.answers.specs.Settings.{limit_fits}
use Rattle.slots.specs.declared.scans.Scan.{Scan}

-- "a slot value is an offset if 0x20 <= value < 0xFF0": slotted.rs's SLOT_OFFSET_MIN, and where the trailer starts
unfoldable pub is_offset : ℕ → Bool
is_offset v = nat_le 0x20 v && nat_lt v 0xFF0

-- the value of a slot's two bytes
abbrev pub slot_value : List ℕ → ℕ
slot_value pair = pair_at pair 0

-- the pairs of a list of bytes, one after the other; and those from a position on that lie whole before an end
unfoldable pub words : List ℕ → List ℕ
words [] = []
words (a ∷ []) = []
words (a ∷ b ∷ l) = (a + 256 * b) ∷ words l

unfoldable pub words_from : ℕ → List ℕ → ℕ → List ℕ
words_from end plain at = words (drop at (take end plain))

-- strictly falling offsets below prev, and zeros among them
unfoldable pub falling : ℕ → List ℕ → List ℕ
falling prev [] = []
falling prev (w ∷ ws) = pick (w == 0) (0 ∷ falling prev ws) (pick (is_offset w && nat_lt w prev) (w ∷ falling w ws) [])

-- "strictly falling offsets, and zeros after the first"
unfoldable pub opening : List ℕ → List ℕ
opening [] = []
opening (w ∷ ws) = pick (is_offset w) (w ∷ falling w ws) []

-- the slots at a position, before an end
unfoldable pub slots_at : ℕ → List ℕ → ℕ → List ℕ
slots_at end plain at = opening (words_from end plain at)

-- "drop trailing zeros"
unfoldable pub onto_trimmed : ℕ → List ℕ → List ℕ
onto_trimmed zero [] = []
onto_trimmed zero (y ∷ l) = 0 ∷ y ∷ l
onto_trimmed (suc x) l = suc x ∷ l

unfoldable pub trim : List ℕ → List ℕ
trim [] = []
trim (x ∷ l) = onto_trimmed x (trim l)

-- how many slots are live
unfoldable pub live_of : List ℕ → ℕ
live_of [] = 0
live_of (zero ∷ l) = live_of l
live_of (suc x ∷ l) = suc (live_of l)

-- "skip one zero pair if pos + 3 < 0x300 and an offset follows", 0x300 being the limit: where the array of a scan from s stands
unfoldable pub array_start_of : ℕ → List ℕ → ℕ → ℕ
array_start_of lim plain s = pick (nat_lt (s + 3) lim && (pair_at plain s == 0 && is_offset (pair_at plain (s + 2)))) (s + 2) s

-- the scan from s
abbrev pub scan_at : ℕ → List ℕ → ℕ → Scan
scan_at lim plain at = record { start = at; slots = length (trim (slots_at lim plain at)); live = live_of (slots_at lim plain at) }

unfoldable pub scan_from : ℕ → List ℕ → ℕ → Scan
scan_from lim plain s = scan_at lim plain (array_start_of lim plain s)

-- "most live, then most slots, then earliest start": c, of a later start than b, is taken only where it has more
unfoldable pub stronger : Scan → Scan → Scan
stronger b c = pick (nat_lt b.live c.live || (b.live == c.live && nat_lt b.slots c.slots)) c b

abbrev pub no_scan : Scan
no_scan = record { start = 0; slots = 0; live = 0 }

-- the best of the scans from 0, .., n - 1. What it means: `Best.scanned-best`, `Best.scanned-nothing`
unfoldable pub best_scan : ℕ → List ℕ → ℕ → Scan
best_scan lim plain zero = no_scan
best_scan lim plain (suc n) = stronger (best_scan lim plain n) (scan_from lim plain n)

-- "fewer than 4 live gives nothing": falling runs of that length are rare in random bytes, shorter ones are noise
unfoldable pub directory_from : Scan → Option Scan
directory_from b = pick (nat_le 4 b.live) (Some b) None

unfoldable pub scanned_directory : ℕ → List ℕ → Option Scan
scanned_directory lim plain = directory_from (best_scan lim plain lim)

-- "array start >= back + 2 and the two bytes at start - back are the count and 0"
unfoldable pub counted_back : List ℕ → ℕ → ℕ → ℕ → Bool
counted_back plain start n back = nat_le (back + 2) start && (byte_at plain (start - back) == n && byte_at plain (start - back + 1) == 0)

-- "a page without a scanned directory ends the row-count test at once"; "for back 6 or 4"
unfoldable pub counted : List ℕ → ℕ → Option Scan → Bool
counted plain n None = false
counted plain n (Some d) = counted_back plain d.start n 6 || counted_back plain d.start n 4

-- the row-count test of a row count n: "row count >= T and .."
unfoldable pub row_count_matches : ℕ → List ℕ → ℕ → ℕ → Bool
row_count_matches lim plain n t = nat_le t n && counted plain n (scanned_directory lim plain)

-- the same of a whole page, which has its row count at 0xFF0; another length answers no, and so does a limit that is out of range
unfoldable pub page_matches : ℕ → List ℕ → ℕ → Bool
page_matches lim plain t = length plain == 4096 && (limit_fits lim && row_count_matches lim plain (byte_at plain 0xFF0) t)
