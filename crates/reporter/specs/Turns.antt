-- A turn of `report`: a block that was answered, and the end of input. Assumes nothing.
use Rattle.std.specs.Prelude.{ℕ, List, [], length, take}
use Rattle.lines.specs.Input.{last_reply}
use Rattle.lines.specs.Runs.{sent_count, Passed}
use Rattle.reply.specs.Reply.{reply_of}
use Rattle.reporter.specs.declared.running.Turn.{Turn}

-- all of a block was answered and written, and what the rest needs is kept
abbrev pub BlockAnswered : List ℕ → ℕ → List ℕ → List ℕ → ℕ → Turn → Type 0
BlockAnswered line kept block line' sent t = Passed reply_of (take kept line) block (take t.kept line') [] sent t.sent

-- what was written in all when the last reply was
abbrev pub end_count : List ℕ → ℕ → ℕ → ℕ
end_count line kept sent = sent_count sent (length (last_reply reply_of (take kept line)))
