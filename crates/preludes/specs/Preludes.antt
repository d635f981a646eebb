-- Document 01, "Slots and rows", "Prelude": the search for fields that hold the row count, on the bytes `plain` of a page. `lim` is the search
-- limit. Assumes nothing.
use Rattle.std.specs.Prelude.{ℕ, zero, suc, ◌+◌, ◌*◌, min, List, Bool, true, false, ◌&&◌, ◌||◌, not, length, ltb, leb, eqb}
use Rattle.lists.specs.Cases.{pick}
use Rattle.lists.specs.Bytes.{pair_at}
use Rattle.slots.specs.Slots.{slots_at, live_of}
use Rattle.preludes.specs.declared.search.Run.{Run}
use Rattle.preludes.specs.declared.search.Prelude.{Prelude}
use Rattle.preludes.specs.declared.search.Prelude.TheVariants.{Missing, Truncated, One, Several}

-- a prelude's slots: at most n from its start on, and none that reaches past the data
abbrev pub data_end : List ℕ → ℕ
data_end plain = min (length plain) 0xFF0

unfoldable pub declared_slots : List ℕ → ℕ → ℕ → List ℕ
declared_slots plain n start = slots_at (min (start + 2 * n) (data_end plain)) plain start

abbrev pub run_of : List ℕ → Run
run_of l = record { taken = length l; live = live_of l }

-- "n slots, .. the first nonzero": there is a first one only if it is live
unfoldable pub whole : ℕ → Run → Bool
whole n r = leb 1 r.live && eqb r.taken n

-- "if incomplete, .. keep the longest with at least 4 live as truncated, the earliest on a tie"
unfoldable pub longer : ℕ → Run → Bool
longer found r = leb 4 r.live && ltb found r.taken

-- what the slots at `start` make of a search that has seen no start, and `found` slots of a truncated directory
abbrev pub first_noted : ℕ → ℕ → Run → ℕ → Prelude → Prelude
first_noted n start r found seen = pick (whole n r) (One start) (pick (longer found r) (Truncated r.taken (start + 2 * r.taken)) seen)

-- "equal starts count once"
unfoldable pub noted : ℕ → ℕ → Run → Prelude → Prelude
noted n start r Missing = first_noted n start r 0 Missing
noted n start r (Truncated found stop) = first_noted n start r found (Truncated found stop)
noted n start r (One s) = pick (whole n r && not (eqb start s)) Several (One s)
noted n start r Several = Several

-- "slots at field + 4, or at field + 6 if the pair at field + 4 is 0"
unfoldable pub gap_noted : List ℕ → ℕ → ℕ → ℕ → Prelude → Prelude
gap_noted plain n field gap seen =
    pick (eqb gap 4 || eqb (pair_at plain (field + 4)) 0) (noted n (field + gap) (run_of (declared_slots plain n (field + gap))) seen) seen

-- "a field .. whose pair equals the row count n"; "gap 4 before 6"
unfoldable pub field_noted : List ℕ → ℕ → ℕ → Prelude → Prelude
field_noted plain n field seen = pick (eqb (pair_at plain field) n) (gap_noted plain n field 6 (gap_noted plain n field 4 seen)) seen

-- "fields ascend": what the fields 0, .., lim - 1 show. What it means: `Starts.prelude-tells`
unfoldable pub prelude_of : ℕ → List ℕ → ℕ → Prelude
prelude_of zero plain n = Missing
prelude_of (suc f) plain n = field_noted plain n f (prelude_of f plain n)

-- the search is over once a second start was seen
abbrev pub several : Prelude → Bool
several Missing = false
several (Truncated found stop) = false
several (One s) = false
several Several = true
