-- What each function finds, of the arguments as C lends them, and what becomes of the lent buffers. Assumes nothing.
use Rattle.std.specs.Prelude.{ℕ, ◌≡◌, Bool, ◌&&◌, List, [], Result, leb, length}
use Rattle.std.specs.Result.{result_ok, result_unwrap_or}
use Rattle.lists.specs.Cases.{pick}
use Rattle.answers.specs.Answers.{answer_in}
use Rattle.answers.specs.declared.kinds.Refusal.{Refusal}
use Rattle.answers.specs.Settings.{options_of, has_directory}
use Rattle.summary.specs.Page.{fits_of, bytes_of, page_scan_of, scanned}
use Rattle.summary.specs.Replace.{replaced, stored_after, shifted_after}
use Rattle.decode.specs.Decode.{decoding_of, supplied_decoding_of, written_of}
use Rattle.choice.specs.declared.Refused.{Refused}
use Rattle.verdict.specs.declared.Decoding.{Decoding}
use Rattle.slotted.specs.Parses.{parsed_of}
use Rattle.rows.specs.RowAnswers.{row_found_of, rows_counted_of}
use Rattle.rows.specs.declared.spans.Span.{Span}
use Rattle.numbers.specs.Writes.{Wrote}
use Rattle.parts.specs.Lent.{is_lent, fits_in}
use Rattle.layout.specs.Layouts.{scan_size, scan_bytes, replacement_bytes, decoding_size, decoding_bytes}
use Rattle.parse_layout.specs.ParseLayouts.{parse_bytes}
use Rattle.row_layout.specs.RowLayouts.{row_count_bytes, row_bytes_of, page_rows_bytes}

-- a buffer has room for a layout of n bytes
abbrev pub has_room : ℕ → List ℕ → Bool
has_room n answer = leb n (length answer)

-- an answer's bytes; of a call that lends as fits what is none, no bytes
abbrev pub told_if : Bool → List ℕ → List ℕ
told_if lent bytes = pick lent bytes []

-- ---- scan and replacement

pub record ScanCall (number : ℕ) (stored shifted shifted_at_exit answer answer_at_exit : List ℕ) (r : ℕ) : Type 0 where
  pub told : Wrote answer 0 (scan_bytes (page_scan_of number stored (length shifted))) answer_at_exit r
  pub bytes : shifted_at_exit ≡ pick (has_room scan_size answer) (scanned number stored shifted) shifted

pub record ReplaceCall (number sector : ℕ) (new fits stored stored_at_exit shifted shifted_at_exit answer answer_at_exit : List ℕ) (r : ℕ) : Type 0 where
  pub told :
      Wrote answer 0 (told_if (is_lent fits) (replacement_bytes (fits_in fits) (replaced number sector new (length stored) (length shifted) (fits_in fits)))) answer_at_exit r
  pub page : stored_at_exit ≡ pick (has_room scan_size answer && is_lent fits) (stored_after sector new stored (length shifted)) stored
  pub bytes : shifted_at_exit ≡ pick (has_room scan_size answer && is_lent fits) (shifted_after number sector new (length stored) shifted) shifted

-- ---- decodings, for a buffer of `room` bytes

-- by its own scan
abbrev pub decoded : ℕ → List ℕ → List ℕ → ℕ → ℕ → ℕ → ℕ → Result Decoding Refused
decoded number stored anchors leniency t limit room =
    decoding_of number stored (fits_of number stored) (bytes_of number stored) anchors (options_of leniency t limit) room

-- from a summary: 64 bytes of fits, and shifted bytes
abbrev pub decoded_from : ℕ → List ℕ → List ℕ → List ℕ → List ℕ → ℕ → ℕ → ℕ → ℕ → Result Decoding Refused
decoded_from number stored fits shifted anchors leniency t limit room =
    decoding_of number stored (fits_in fits) shifted anchors (options_of leniency t limit) room

-- with a supplied bv, by its own scan
abbrev pub supplied : ℕ → List ℕ → ℕ → ℕ → ℕ → ℕ → ℕ → Result Decoding Refused
supplied number stored bv leniency t limit room =
    supplied_decoding_of number bv stored (fits_of number stored) (bytes_of number stored) (options_of leniency t limit) room

-- and from a summary
abbrev pub supplied_from : ℕ → List ℕ → List ℕ → List ℕ → ℕ → ℕ → ℕ → ℕ → ℕ → Result Decoding Refused
supplied_from number stored fits shifted bv leniency t limit room =
    supplied_decoding_of number bv stored (fits_in fits) shifted (options_of leniency t limit) room

-- the decoding told, and the plain page written where it accepts
pub record DecodingCall (lent : Bool) (d : Result Decoding Refused) (stored shifted out out_at_exit answer answer_at_exit : List ℕ) (r : ℕ) : Type 0 where
  pub told : Wrote answer 0 (told_if lent (decoding_bytes d)) answer_at_exit r
  pub plain : out_at_exit ≡ pick (has_room decoding_size answer && lent) (written_of d stored shifted out) out

-- ---- slots and rows of a plain page

abbrev pub parse_told : ℕ → List ℕ → ℕ → ℕ → List ℕ
parse_told number plain leniency limit = parse_bytes (parsed_of limit number plain (has_directory leniency))

abbrev pub row_count_told : ℕ → List ℕ → ℕ → ℕ → List ℕ
row_count_told number plain leniency limit =
    let r : Result ℕ Refusal = rows_counted_of limit number plain (has_directory leniency) in
    row_count_bytes (answer_in r) (result_unwrap_or r 0)

abbrev pub row_told : ℕ → List ℕ → ℕ → ℕ → ℕ → List ℕ
row_told number plain leniency limit row =
    let r : Result Span Refusal = row_found_of limit number plain (has_directory leniency) row in
    row_bytes_of (answer_in r) (result_ok r)

abbrev pub rows_told : ℕ → List ℕ → ℕ → ℕ → List ℕ
rows_told number plain leniency limit = page_rows_bytes limit number plain (has_directory leniency)
