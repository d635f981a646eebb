-- THE SEARCH LIMIT: request #109, "20, with the limit, if it is outside the range, after the lengths .., before the unallocated answer"; and no limit in the
-- range is answered so. Its range is 8 to 2,048, both ends. Assumes nothing.
use Rattle.std.specs.Prelude.{ℕ, ◌≤◌, ◌≡◌, Bool, true, false, Some, Result, Err, List, [], ◌∷◌, length}
use Rattle.numbers.specs.Numbers.{big_bytes}
use Rattle.answers.specs.Answers.{Answer, number_of, answer_in}
use Rattle.answers.specs.Settings.{limit_fits}
use Rattle.answers.specs.declared.kinds.Refusal.{Refusal}
use Rattle.answers.specs.declared.kinds.Refusal.TheVariants.{WrongPageLength, WrongBufferLength, LimitOutOfRange}
use Rattle.answers.specs.declared.settings.Options.{Options}
use Rattle.sector.specs.declared.fits.Fit.{Fit}
use Rattle.slots.specs.Slots.{page_matches}
use Rattle.slotted.specs.Parses.{parsed_of}
use Rattle.rows.specs.RowAnswers.{rows_of, row_answer_of}
use Rattle.choice.specs.declared.Refused.{Refused}
use Rattle.choice.specs.Rules.{refusal, refused_answer, choice_of}
use Rattle.choice.specs.Supplied.{supplied_of}
use Rattle.verdict.specs.declared.Decoding.{Decoding}
use Rattle.decode.specs.Decode.{decoding_of, supplied_decoding_of}
use Rattle.frame.specs.Frames.{is_frame}
use Rattle.reply.specs.Report.{line_of}
use Rattle.reply.specs.Reply.{reply_of}
use Rattle.demands.specs.Replies.{number_in, limit_in}

-- the refusal of the limit that the options have, and an answer that is no such refusal
abbrev pub limit_answer : Options → Refusal
limit_answer o = LimitOutOfRange o.search_limit

abbrev pub OtherThanLimit : Answer → Type 0
OtherThanLimit x = number_of x ≡ 20 → ⊥

-- "after the lengths": the first wrong one is answered
pub record LengthsFirst (stored shifted : List ℕ) (m : ℕ) (r : Result Decoding Refused) : Type 0 where
  pub page : (length stored ≡ 4096 → ⊥) → r ≡ Err (refusal (WrongPageLength (length stored)))
  pub out : length stored ≡ 4096 → (m ≡ 4096 → ⊥) → r ≡ Err (refusal (WrongBufferLength m))
  pub bytes : length stored ≡ 4096 → m ≡ 4096 → (length shifted ≡ 4080 → ⊥) → r ≡ Err (refusal (WrongBufferLength (length shifted)))

pub record LimitRefused : Type 0 where
  pub range : (lim : ℕ) → limit_fits lim ≡ true → (8 ≤ lim) × (lim ≤ 2048)
  pub inside : (lim : ℕ) → 8 ≤ lim → lim ≤ 2048 → limit_fits lim ≡ true
  -- whatever the limit
  pub decoding-lengths :
      (number : ℕ) (stored : List ℕ) (fits : List Fit) (shifted anchors : List ℕ) (o : Options) (m : ℕ)
      → LengthsFirst stored shifted m (decoding_of number stored fits shifted anchors o m)
  pub supplied-lengths :
      (number bv : ℕ) (stored : List ℕ) (fits : List Fit) (shifted : List ℕ) (o : Options) (m : ℕ)
      → LengthsFirst stored shifted m (supplied_decoding_of number bv stored fits shifted o m)
  pub choice-length :
      (number : ℕ) (shifted anchors : List ℕ) (n : ℕ) (o : Options)
      → (length shifted ≡ 4080 → ⊥)
      → choice_of number shifted anchors n o ≡ Err (refusal (WrongBufferLength (length shifted)))
  pub support-length :
      (number bv : ℕ) (shifted : List ℕ) (n : ℕ) (o : Options)
      → (length shifted ≡ 4080 → ⊥)
      → supplied_of number bv shifted n o ≡ Err (refusal (WrongBufferLength (length shifted)))
  pub parse-length :
      (lim number : ℕ) (plain : List ℕ) (lenient : Bool)
      → (length plain ≡ 4096 → ⊥)
      → parsed_of lim number plain lenient ≡ Err (WrongPageLength (length plain))
  -- of lent bytes with the right lengths, whatever the page holds: it may be all zero, have a wrong CRC, or no directory
  pub decoding :
      (number : ℕ) (stored : List ℕ) (fits : List Fit) (shifted anchors : List ℕ) (o : Options)
      → length stored ≡ 4096
      → length shifted ≡ 4080
      → limit_fits o.search_limit ≡ false
      → decoding_of number stored fits shifted anchors o 4096 ≡ Err (refusal (limit_answer o))
  pub supplied :
      (number bv : ℕ) (stored : List ℕ) (fits : List Fit) (shifted : List ℕ) (o : Options)
      → length stored ≡ 4096
      → length shifted ≡ 4080
      → limit_fits o.search_limit ≡ false
      → supplied_decoding_of number bv stored fits shifted o 4096 ≡ Err (refusal (limit_answer o))
  pub choice :
      (number : ℕ) (shifted anchors : List ℕ) (n : ℕ) (o : Options)
      → length shifted ≡ 4080
      → limit_fits o.search_limit ≡ false
      → choice_of number shifted anchors n o ≡ Err (refusal (limit_answer o))
  pub support :
      (number bv : ℕ) (shifted : List ℕ) (n : ℕ) (o : Options)
      → length shifted ≡ 4080
      → limit_fits o.search_limit ≡ false
      → supplied_of number bv shifted n o ≡ Err (refusal (limit_answer o))
  pub parse :
      (lim number : ℕ) (plain : List ℕ) (lenient : Bool)
      → length plain ≡ 4096
      → limit_fits lim ≡ false
      → parsed_of lim number plain lenient ≡ Err (LimitOutOfRange lim)
  -- not 16, whatever the row
  pub row :
      (lim number : ℕ) (plain : List ℕ) (lenient : Bool) (r : ℕ)
      → length plain ≡ 4096
      → limit_fits lim ≡ false
      → row_answer_of lim number plain lenient r ≡ Some (LimitOutOfRange lim)
  -- of any number of bytes: no row, and no for the row-count test
  pub rows : (lim : ℕ) (plain : List ℕ) (lenient : Bool) → limit_fits lim ≡ false → rows_of lim plain lenient ≡ []
  pub test : (lim : ℕ) (plain : List ℕ) (t : ℕ) → limit_fits lim ≡ false → page_matches lim plain t ≡ false
  -- the line of a frame: its number and the page's, which may be all zero
  pub line :
      (line : List ℕ)
      → is_frame line ≡ true
      → limit_fits (limit_in line) ≡ false
      → reply_of line ≡ line_of (20 ∷ big_bytes 8 (number_in line))
  -- a limit in its range is not refused, by any of them
  pub decoding-taken :
      (number : ℕ) (stored : List ℕ) (fits : List Fit) (shifted anchors : List ℕ) (o : Options) (m : ℕ)
      → limit_fits o.search_limit ≡ true
      → OtherThanLimit (refused_answer (decoding_of number stored fits shifted anchors o m))
  pub supplied-taken :
      (number bv : ℕ) (stored : List ℕ) (fits : List Fit) (shifted : List ℕ) (o : Options) (m : ℕ)
      → limit_fits o.search_limit ≡ true
      → OtherThanLimit (refused_answer (supplied_decoding_of number bv stored fits shifted o m))
  pub choice-taken :
      (number : ℕ) (shifted anchors : List ℕ) (n : ℕ) (o : Options)
      → limit_fits o.search_limit ≡ true
      → OtherThanLimit (refused_answer (choice_of number shifted anchors n o))
  pub support-taken :
      (number bv : ℕ) (shifted : List ℕ) (n : ℕ) (o : Options)
      → limit_fits o.search_limit ≡ true
      → OtherThanLimit (refused_answer (supplied_of number bv shifted n o))
  pub parse-taken :
      (lim number : ℕ) (plain : List ℕ) (lenient : Bool) → limit_fits lim ≡ true → OtherThanLimit (answer_in (parsed_of lim number plain lenient))
  pub row-taken :
      (lim number : ℕ) (plain : List ℕ) (lenient : Bool) (r : ℕ)
      → limit_fits lim ≡ true
      → OtherThanLimit (row_answer_of lim number plain lenient r)
