-- Document 01, "Slots and rows": the rows of a directory at `start` with `count` slots. Assumes nothing.
use Rattle.std.specs.Prelude.{ℕ, zero, suc, ◌+◌, ◌-◌, ◌*◌, ◌<◌, ◌≡◌, List, [], ◌∷◌, Bool, false, ◌&&◌, not, ltb, leb, length, take, drop, Option, Some, None}
use Rattle.std.specs.Borrow.{Bor}
use Rattle.lists.specs.Cases.{pick}
use Rattle.lists.specs.Bytes.{byte_at, pair_at}
use Rattle.lists.specs.Counts.{count}
use Rattle.lists.specs.Sorting.{insert}
use Rattle.lists.specs.Pieces.{keep}
use Rattle.directory.specs.Directory.{slots_of}
use Rattle.rows.specs.declared.spans.Row.{Row}
use Rattle.rows.specs.declared.spans.Span.{Span}

-- "a kept live offset": not dropped
unfoldable pub is_kept : ℕ → ℕ → ℕ → Bool
is_kept start stop v = ltb 0 v && not (leb start v && ltb v stop)

-- the least first
unfoldable pub ascending : List ℕ → List ℕ
ascending [] = []
ascending (x ∷ l) = insert leb x (ascending l)

-- "rows ascend": where the rows start
unfoldable pub rows_at : List ℕ → ℕ → ℕ → List ℕ
rows_at plain start count = ascending (keep (is_kept start (start + 2 * count)) (slots_of plain start count))

-- the same list with nothing sorted: the kept offsets of the first k slots, from the last of them to the first
unfoldable pub from_end : List ℕ → ℕ → ℕ → ℕ → List ℕ
from_end plain start stop zero = []
from_end plain start stop (suc k) =
    let v : ℕ = pair_at plain (start + 2 * k) in
    pick (is_kept start stop v) (v ∷ from_end plain start stop k) (from_end plain start stop k)

-- "rows ascend": a list has the kept offsets, each once and each below the next
pub record Lists (kept rows : List ℕ) : Type 0 where
  pub sorted : rows ≡ ascending kept
  pub all : (v : ℕ) → count v rows ≡ count v kept
  pub rising : (i j : ℕ) → i < j → j < length rows → byte_at rows i < byte_at rows j

-- "a row runs from a kept live offset to the next greater one or 0xFF0 .. the first being number 0"
abbrev pub head_or : ℕ → List ℕ → ℕ
head_or d [] = d
head_or d (x ∷ l) = x

abbrev pub At : ℕ → ℕ → Option Span
At o e = Some (record { offset = o; end = e })

unfoldable pub row_in : ℕ → List ℕ → Option Span
row_in r [] = None
row_in zero (o ∷ l) = At o (head_or 0xFF0 l)
row_in (suc r) (o ∷ l) = row_in r l

abbrev pub start_of : Option Span → ℕ
start_of (Some s) = s.offset
start_of None = 0

abbrev pub end_of : Option Span → ℕ
end_of (Some s) = s.end
end_of None = 0

-- "answers that part of the lent plaintext itself": p starts where the row does in s, and holds those bytes of s; the empty part is at 0
pub record IsPart (s p : Bor (List ℕ)) (a : Option Span) : Type 0 where
  pub place : p.ref_ptr ≡ (s.ref_ptr.0, start_of a + s.ref_ptr.1)
  pub bytes : p.now ≡ take (end_of a - start_of a) (drop (start_of a) s.now)

-- "`Row` holds its part of the plaintext: first offset and end, then the record"; "its exact mark is always false"
pub record IsRow (s : Bor (List ℕ)) (a : Option Span) (w : Row) : Type 0 where
  pub starts : w.offset ≡ start_of a
  pub part : IsPart s w.bytes a
  pub inexact : w.exact ≡ false
