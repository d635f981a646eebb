-- A run over blocks, and the count of what it writes. Assumes nothing.
use Rattle.std.specs.Prelude.{ℕ, ◌+◌, ◌%◌, ◌^◌, ◌≡◌, List, [], ◌∷◌, length}
use Rattle.lines.specs.Input.{flat, last_reply}
use Rattle.lines.specs.Steps.{Steps}

-- A run with the blocks that are still to come, and all that it puts out: steps until nothing of a block is in hand, then the next block, and at the
-- end of input the last reply.
pub data Run (reply : List ℕ → List ℕ) : List ℕ → List ℕ → List (List ℕ) → List (List ℕ) → Type 0 where
  ends : {kept : List ℕ} → Run reply kept [] [] (last_reply reply kept ∷ [])
  reads : {kept block : List ℕ} {blocks outs : List (List ℕ)} → Run reply kept block blocks outs → Run reply kept [] (block ∷ blocks) outs
  steps : {kept rest out kept' rest' : List ℕ} {blocks outs : List (List ℕ)} → Steps reply kept rest out kept' rest'
      → Run reply kept' rest' blocks outs → Run reply kept rest blocks (out ∷ outs)

-- No contract can say what is written, but a count says how much: no write is left out or made twice. It is kept modulo 2^64.
abbrev pub sent_count : ℕ → ℕ → ℕ
sent_count sent n = (sent + n) % 2 ^ 64

-- Steps, of which each put something out, and what was written in all before and after them.
pub record Passed (reply : List ℕ → List ℕ) (kept input kept' rest : List ℕ) (sent sent' : ℕ) : Type 0 where
  pub out : List ℕ
  pub steps : Steps reply kept input out kept' rest
  pub count : sent' % 2 ^ 64 ≡ sent_count sent (length out)

-- a whole run, all of whose output was written
pub record Written (reply : List ℕ → List ℕ) (sent : ℕ) : Type 0 where
  pub blocks : List (List ℕ)
  pub outs : List (List ℕ)
  pub run : Run reply [] [] blocks outs
  pub count : sent % 2 ^ 64 ≡ length (flat outs) % 2 ^ 64
