-- DEMAND 1 for the program: every line gets one of the answers, by `reply_to`. A frame has a whole page, so that answers 1 and 2 are not among them.
-- Assumes nothing.
use Rattle.std.specs.Prelude.{ℕ, ◌≤◌, ◌<◌, ◌≡◌, false, Some, Result, List, [], ◌∷◌, ◌++◌, length, take, drop}
use Rattle.lists.specs.Cases.{pick}
use Rattle.numbers.specs.Numbers.{big_bytes}
use Rattle.answers.specs.Answers.{Answer, number_of, is_accepted}
use Rattle.answers.specs.Settings.{options_of}
use Rattle.answers.specs.declared.kinds.Refusal.TheVariants.{MalformedLine}
use Rattle.answers.specs.declared.settings.Options.{Options}
use Rattle.page.specs.Trailer.{stored_crc}
use Rattle.page.specs.Integrity.{computed_crc}
use Rattle.summary.specs.Page.{fits_of, bytes_of}
use Rattle.votes.specs.Votes.{counts_of, top_of}
use Rattle.choice.specs.declared.Refused.{Refused}
use Rattle.choice.specs.Rules.{refused_answer}
use Rattle.verdict.specs.declared.Decoding.{Decoding}
use Rattle.verdict.specs.Sectors.{refit_of}
use Rattle.digits.specs.Digits.{spelled}
use Rattle.frame.specs.Frames.{is_frame, anchor_count, page_number, option_bits, least_count, limit_of, anchors_of, stored_of}
use Rattle.reply.specs.Report.{reply_most, told_bytes, line_of}
use Rattle.reply.specs.Reply.{frame_decoding, reply_of, replied_into, replied_number}
use Rattle.demands.specs.Told.{Line, ◌returns◌, OneOf, weak_values}

-- the page of a line, its number, its search limit, and its decoding
abbrev pub number_in : List ℕ → ℕ
number_in line = page_number (spelled line)

abbrev pub page_in : List ℕ → List ℕ
page_in line = stored_of (anchor_count line) (spelled line)

abbrev pub limit_in : List ℕ → ℕ
limit_in line = limit_of (spelled line)

unfoldable pub decoding_in : List ℕ → Result Decoding Refused
decoding_in line =
    let anchors : List ℕ = anchors_of (anchor_count line) (spelled line) in
    let o : Options = options_of (option_bits (spelled line)) (least_count (spelled line)) (limit_in line) in
    frame_decoding (number_in line) (page_in line) anchors o

-- the answer to a line
unfoldable pub answer_to : List ℕ → Answer
answer_to line = pick (is_frame line) (refused_answer (decoding_in line)) (Some MalformedLine)

abbrev pub frame_lines : ℕ → ℕ → List ℕ → List Line
frame_lines lim number stored =
    0 returns []
    ∷ 3 returns (number ∷ stored_crc stored ∷ computed_crc stored ∷ [])
    ∷ 4 returns (number ∷ [])
    ∷ 5 returns (number ∷ [])
    ∷ 6 returns (number ∷ top_of (counts_of (bytes_of number stored)) ∷ [])
    ∷ 7 returns weak_values number (refit_of (fits_of number stored) (bytes_of number stored))
    ∷ 17 returns []
    ∷ 20 returns (lim ∷ [])
    ∷ []

-- what follows the number: the page number and, if accepted, the rest; after 17 nothing
unfoldable pub rest_of : List ℕ → List ℕ
rest_of line = pick (is_frame line) (big_bytes 8 (number_in line) ++ told_bytes (decoding_in line)) []

pub record LinesAnswered : Type 0 where
  pub answer : (line : List ℕ) → OneOf (frame_lines (limit_in line) (number_in line) (page_in line)) (answer_to line)
  pub reply : (line : List ℕ) → reply_of line ≡ line_of (number_of (answer_to line) ∷ rest_of line)
  -- a refusal tells its number and its page; "11", a malformed line, stands alone
  pub refused : (line : List ℕ) → is_accepted (answer_to line) ≡ false → rest_of line ≡ pick (is_frame line) (big_bytes 8 (number_in line)) []
  -- a buffer without room for the longest line is as it was; else the reply stands in front, and the rest is as it was
  pub short : (line out : List ℕ) → length out < reply_most → (replied_number line out ≡ 0) × (replied_into line out ≡ out)
  pub room :
      (line out : List ℕ)
      → reply_most ≤ length out
      → (replied_number line out ≡ length (reply_of line))
      × (take (length (reply_of line)) (replied_into line out) ≡ reply_of line)
      × (drop (length (reply_of line)) (replied_into line out) ≡ drop (length (reply_of line)) out)
