-- The next line in what is kept and in a block, and what is kept then. Assumes nothing.
use Rattle.std.specs.Prelude.{ℕ, ◌+◌, ◌-◌, Bool, ◌&&◌, List, eqb, ltb, length, take, drop}
use Rattle.lists.specs.Cases.{pick}
use Rattle.lists.specs.Pieces.{over}
use Rattle.lines.specs.Input.{up_to}
use Rattle.lines.specs.declared.next.Next.{Next}
use Rattle.lines.specs.declared.next.Next.TheVariants.{Here, Begun, Unfinished}

-- where the line ends that stands in a block from a place on: at the next newline, or where the block does
unfoldable pub line_end : List ℕ → ℕ → ℕ
line_end block from = from + up_to (drop from block)

abbrev pub has_ended : List ℕ → ℕ → Bool
has_ended block from = ltb (line_end block from) (length block)

-- what the block has of that line
abbrev pub part_at : List ℕ → ℕ → List ℕ
part_at block from = take (line_end block from - from) (drop from block)

-- what of a part has room behind the first n places of a buffer, and the buffer that keeps it
abbrev pub fitting : List ℕ → ℕ → List ℕ → List ℕ
fitting buffer n part = take (length buffer - n) part

abbrev pub kept_in : List ℕ → ℕ → List ℕ → List ℕ
kept_in buffer n part = over buffer n (fitting buffer n part)

abbrev pub kept_number : List ℕ → ℕ → List ℕ → ℕ
kept_number buffer n part = n + length (fitting buffer n part)

-- a line that stands in the block alone is answered there: nothing is copied
abbrev pub in_block : ℕ → List ℕ → ℕ → Bool
in_block kept block from = has_ended block from && eqb kept 0

unfoldable pub next_of : List ℕ → ℕ → List ℕ → ℕ → Next
next_of line kept block from =
    pick (has_ended block from) (pick (eqb kept 0) (Here (line_end block from)) (Begun (line_end block from) (kept_number line kept (part_at block from))))
    (Unfinished (kept_number line kept (part_at block from)))

unfoldable pub line_after : List ℕ → ℕ → List ℕ → ℕ → List ℕ
line_after line kept block from = pick (in_block kept block from) line (kept_in line kept (part_at block from))
