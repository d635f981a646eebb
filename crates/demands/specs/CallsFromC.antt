-- DEMAND 1 for the functions of include/lumeviqo.h: each tells one of the answers in its layout, or returns 0 and does nothing where the buffer for the
-- answer is too short, or what is lent as fits is none. The answers are those of the entries, of which `Answered` has the lines. Assumes nothing.
use Rattle.std.specs.Prelude.{ℕ, ◌≡◌, Bool, true, false, ◌&&◌, Result, List, length, take, drop}
use Rattle.lists.specs.Bytes.{byte_at}
use Rattle.answers.specs.Answers.{Answer, number_of, is_accepted, answer_in}
use Rattle.answers.specs.Settings.{has_directory}
use Rattle.page.specs.Trailer.{trailer_answer}
use Rattle.page.specs.Integrity.{integrity_of}
use Rattle.page.specs.Superblock.{superblock_answer, checked_superblock}
use Rattle.summary.specs.Page.{page_scan_of}
use Rattle.summary.specs.Replace.{replace_answer}
use Rattle.slotted.specs.Parses.{parsed_of}
use Rattle.rows.specs.RowAnswers.{row_answer_of}
use Rattle.choice.specs.declared.Refused.{Refused}
use Rattle.choice.specs.Rules.{refused_answer}
use Rattle.verdict.specs.declared.Decoding.{Decoding}
use Rattle.numbers.specs.Writes.{Wrote}
use Rattle.fields.specs.Fields.{layout_bytes}
use Rattle.parts.specs.Parts.{answer_size, answer_fields}
use Rattle.parts.specs.Lent.{is_lent}
use Rattle.layout.specs.Layouts.{integrity_bytes, trailer_size, trailer_bytes, superblock_size, superblock_bytes, scan_size, decoding_size}
use Rattle.parse_layout.specs.ParseLayouts.{parse_size}
use Rattle.row_layout.specs.RowLayouts.{row_count_size, row_size, rows_size}
use Rattle.lumeviqo.specs.Calls.{has_room, ScanCall, ReplaceCall, DecodingCall, parse_told, row_count_told, row_told, rows_told}

-- a layout of n bytes that starts with the answer x, in the buffer `answer`, and what is returned; `lent` says whether the fits are fits
pub record ToldInC (lent : Bool) (n : ℕ) (x : Answer) (answer answer_at_exit : List ℕ) (r : ℕ) : Type 0 where
  pub nothing : (has_room n answer && lent) ≡ false → (r ≡ 0) × (answer_at_exit ≡ answer)
  pub all : (has_room n answer && lent) ≡ true → r ≡ n
  pub number : (has_room n answer && lent) ≡ true → byte_at answer_at_exit 0 ≡ number_of x
  pub front : (has_room n answer && lent) ≡ true → take answer_size answer_at_exit ≡ layout_bytes (answer_fields x)
  pub behind : drop n answer_at_exit ≡ drop n answer

-- any other buffer is as it was, unless the function does something and accepts
pub record Keeps (lent : Bool) (n : ℕ) (x : Answer) (answer buffer buffer_at_exit : List ℕ) : Type 0 where
  pub kept : (has_room n answer && lent && is_accepted x) ≡ false → buffer_at_exit ≡ buffer

-- each by its contract
pub record CallsAnswered : Type 0 where
  pub trailer :
      (stored answer answer_at_exit : List ℕ) (r : ℕ)
      → Wrote answer 0 (trailer_bytes (trailer_answer stored)) answer_at_exit r
      → ToldInC true trailer_size (answer_in (trailer_answer stored)) answer answer_at_exit r
  pub integrity :
      (number : ℕ) (stored answer answer_at_exit : List ℕ) (r : ℕ)
      → Wrote answer 0 (integrity_bytes (integrity_of number stored)) answer_at_exit r
      → ToldInC true answer_size (integrity_of number stored) answer answer_at_exit r
  pub superblock :
      (stored answer answer_at_exit : List ℕ) (r : ℕ)
      → Wrote answer 0 (superblock_bytes (superblock_answer stored)) answer_at_exit r
      → ToldInC true superblock_size (answer_in (superblock_answer stored)) answer answer_at_exit r
  pub checked :
      (stored answer answer_at_exit : List ℕ) (r : ℕ)
      → Wrote answer 0 (superblock_bytes (checked_superblock stored)) answer_at_exit r
      → ToldInC true superblock_size (answer_in (checked_superblock stored)) answer answer_at_exit r
  pub scan :
      (number : ℕ) (stored shifted shifted_at_exit answer answer_at_exit : List ℕ) (r : ℕ)
      → ScanCall number stored shifted shifted_at_exit answer answer_at_exit r
      → let x : Answer = answer_in (page_scan_of number stored (length shifted)) in
      ToldInC true scan_size x answer answer_at_exit r × Keeps true scan_size x answer shifted shifted_at_exit
  pub replacement :
      (number s : ℕ) (new fits stored stored_at_exit shifted shifted_at_exit answer answer_at_exit : List ℕ) (r : ℕ)
      → ReplaceCall number s new fits stored stored_at_exit shifted shifted_at_exit answer answer_at_exit r
      → let x : Answer = replace_answer s new (length stored) (length shifted) in
      ToldInC (is_lent fits) scan_size x answer answer_at_exit r
      × Keeps (is_lent fits) scan_size x answer stored stored_at_exit
      × Keeps (is_lent fits) scan_size x answer shifted shifted_at_exit
  -- all four, by the decoding that each asks for
  pub decoding :
      (lent : Bool) (d : Result Decoding Refused) (stored shifted out out_at_exit answer answer_at_exit : List ℕ) (r : ℕ)
      → DecodingCall lent d stored shifted out out_at_exit answer answer_at_exit r
      → ToldInC lent decoding_size (refused_answer d) answer answer_at_exit r
      × Keeps lent decoding_size (refused_answer d) answer out out_at_exit
  pub parse :
      (number : ℕ) (plain : List ℕ) (leniency limit : ℕ) (answer answer_at_exit : List ℕ) (r : ℕ)
      → Wrote answer 0 (parse_told number plain leniency limit) answer_at_exit r
      → ToldInC true parse_size (answer_in (parsed_of limit number plain (has_directory leniency))) answer answer_at_exit r
  pub row_count :
      (number : ℕ) (plain : List ℕ) (leniency limit : ℕ) (answer answer_at_exit : List ℕ) (r : ℕ)
      → Wrote answer 0 (row_count_told number plain leniency limit) answer_at_exit r
      → ToldInC true row_count_size (answer_in (parsed_of limit number plain (has_directory leniency))) answer answer_at_exit r
  pub row :
      (number : ℕ) (plain : List ℕ) (leniency limit k : ℕ) (answer answer_at_exit : List ℕ) (r : ℕ)
      → Wrote answer 0 (row_told number plain leniency limit k) answer_at_exit r
      → ToldInC true row_size (row_answer_of limit number plain (has_directory leniency) k) answer answer_at_exit r
  pub rows :
      (number : ℕ) (plain : List ℕ) (leniency limit : ℕ) (answer answer_at_exit : List ℕ) (r : ℕ)
      → Wrote answer 0 (rows_told number plain leniency limit) answer_at_exit r
      → ToldInC true rows_size (answer_in (parsed_of limit number plain (has_directory leniency))) answer answer_at_exit r
