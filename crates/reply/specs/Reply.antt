-- Document 01, "The program": what `report` answers to a line. Assumes nothing.
use Rattle.std.specs.Prelude.{ℕ, Some, Result, List, [], ◌∷◌, leb, length}
use Rattle.lists.specs.Cases.{pick}
use Rattle.lists.specs.Pieces.{over}
use Rattle.answers.specs.Answers.{number_of}
use Rattle.answers.specs.Settings.{options_of}
use Rattle.answers.specs.declared.kinds.Refusal.TheVariants.{MalformedLine}
use Rattle.answers.specs.declared.settings.Options.{Options}
use Rattle.summary.specs.Page.{fits_of, bytes_of}
use Rattle.decode.specs.Decode.{decoding_of}
use Rattle.choice.specs.declared.Refused.{Refused}
use Rattle.verdict.specs.declared.Decoding.{Decoding}
use Rattle.digits.specs.Digits.{spelled}
use Rattle.frame.specs.Frames.{is_frame, anchor_count, page_number, option_bits, least_count, limit_of, anchors_of, stored_of}
use Rattle.reply.specs.Report.{reply_most, report_bytes, line_of}

-- the decoding of a page by its own scan
abbrev pub frame_decoding : ℕ → List ℕ → List ℕ → Options → Result Decoding Refused
frame_decoding number stored anchors o = decoding_of number stored (fits_of number stored) (bytes_of number stored) anchors o 4096

-- the report on a frame's bytes, of which n are anchors
unfoldable pub frame_report : List ℕ → ℕ → List ℕ
frame_report bytes n =
    report_bytes
    (page_number bytes)
    (frame_decoding (page_number bytes) (stored_of n bytes) (anchors_of n bytes) (options_of (option_bits bytes) (least_count bytes) (limit_of bytes)))

-- "Anything else is line 11", which stands alone: the number of the answer
abbrev pub malformed : List ℕ
malformed = number_of (Some MalformedLine) ∷ []

unfoldable pub reply_of : List ℕ → List ℕ
reply_of line = line_of (pick (is_frame line) (frame_report (spelled line) (anchor_count line)) malformed)

-- what `reply_to` writes into a buffer, and how much: the reply, or nothing where the longest line does not fit
unfoldable pub replied_into : List ℕ → List ℕ → List ℕ
replied_into line out = pick (leb reply_most (length out)) (over out 0 (reply_of line)) out

unfoldable pub replied_number : List ℕ → List ℕ → ℕ
replied_number line out = pick (leb reply_most (length out)) (length (reply_of line)) 0
