-- A step of a program that answers lines: what it puts out, and what it has in hand then. Assumes nothing.
use Rattle.std.specs.Prelude.{ℕ, ◌+◌, ◌≤◌, ◌<◌, ◌≡◌, List, ◌++◌, length, take, drop}
use Rattle.lists.specs.Pieces.{over}
use Rattle.lines.specs.Input.{output_from}
use Rattle.lines.specs.declared.next.Step.{Step}

-- With `kept` of an unfinished line and `input` in hand a step puts out `out` and has `kept'` and `rest` in hand then: nothing is lost and nothing is
-- said twice, whatever comes later.
pub record Steps (reply : List ℕ → List ℕ) (kept input out kept' rest : List ℕ) : Type 0 where
  pub same : (later : List ℕ) → output_from reply kept (input ++ later) ≡ out ++ output_from reply kept' (rest ++ later)

-- the reply to a line stands in `out'` from a place on, and `next` is the place behind it
pub record Replied (reply : List ℕ → List ℕ) (l out : List ℕ) (at : ℕ) (out' : List ℕ) (next : ℕ) : Type 0 where
  pub place : next ≡ at + length (reply l)
  pub here : out' ≡ over out at (reply l)

-- What a step does with its buffers: it answers the lines of the block from a place on, as far as the output has room for the replies, and where it has
-- room for one at all it goes on.
pub record Stepped (reply : List ℕ → List ℕ) (most : ℕ) (line : List ℕ) (kept : ℕ) (block : List ℕ) (from : ℕ) (line' out' : List ℕ) (s : Step) : Type 0 where
  pub done : Steps reply (take kept line) (drop from block) (take s.waiting out') (take s.kept line') (drop s.from block)
  pub held : s.kept ≤ length line'
  pub fits : s.waiting ≤ length out'
  pub onward : most ≤ length out' → from < length block → from < s.from
