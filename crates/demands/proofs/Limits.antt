-- THE SEARCH LIMIT, proved. A limit in its range is not refused with 20: its answer stands in a table that has no such line. Assumes nothing.
use Prim.Native.Nat.{ℕ, ◌≤◌}
use mathlib.Core.Path.{◌≡◌, refl, sym, ap, ap₂, ◌∙◌}
use mathlib.Core.Bool.{Bool, true, false, and-false}
use mathlib.Core.List.{List, [], ◌∷◌}
use native.Mathlib.Omega.{arith}
use borrow.Author.Tests.{eq-eqb, ne_eqb, le-leb}
use lib.Dec.{eqb, leb}
use lib.ListN.{length}
use Rattle.std.specs.Prelude.{Option, Some, None, Result, Ok, Err, ok_or}
use Rattle.std.specs.Result.{result_and}
use Rattle.lists.specs.Cases.{pick}
use Rattle.lists.proofs.Booleans.{and_yes}
use Rattle.lists.proofs.Picks.{never_both}
use Rattle.numbers.specs.Numbers.{big_bytes}
use Rattle.answers.specs.Answers.{Answer, number_of, values_of, is_accepted, answer_in}
use Rattle.answers.specs.Settings.{options_of, limit_fits}
use Rattle.answers.specs.declared.kinds.Refusal.{Refusal}
use Rattle.answers.specs.declared.kinds.Refusal.TheVariants.{WrongPageLength, NoSuchRow, LimitOutOfRange}
use Rattle.answers.specs.declared.settings.Options.{Options}
use Rattle.answers.proofs.Limits.{limit-within}
use Rattle.sector.specs.declared.fits.Fit.{Fit}
use Rattle.page.specs.Trailer.{row_count_of}
use Rattle.summary.specs.Page.{fits_of, bytes_of}
use Rattle.summary.proofs.Sectors.{summary-length}
use Rattle.slots.specs.Slots.{page_matches}
use Rattle.directory.specs.Decisions.{Decision, numbered, listed_of, decision_of}
use Rattle.directory.specs.declared.verdicts.Unlisted.TheVariants as unlisted
use Rattle.directory.proofs.Decisions.{decided-short, decided-out}
use Rattle.slotted.specs.Parses.{parsed_by, parsed_of}
use Rattle.slotted.specs.declared.directories.Parsed.{Parsed}
use Rattle.rows.specs.RowAnswers.{rows_in, rows_of, row_of, row_answer_of}
use Rattle.rows.specs.declared.spans.Span.{Span}
use Rattle.choice.specs.declared.Refused.{Refused}
use Rattle.choice.specs.Rules.{refusal, refused_answer, choice_of}
use Rattle.choice.specs.Supplied.{supplied_of}
use Rattle.choice.proofs.ChoiceCases.{asked-length, asked-limit, choice-refused, supplied_refused}
use Rattle.verdict.specs.declared.Decoding.{Decoding}
use Rattle.verdict.specs.Verdict.{verdict_of, supplied_verdict}
use Rattle.decode.specs.Decode.{entry_answer, entry_checked, decoding_of, supplied_decoding_of}
use Rattle.digits.specs.Digits.{spelled}
use Rattle.frame.specs.Frames.{is_frame, anchor_count, option_bits, least_count, anchors_of}
use Rattle.reply.specs.Report.{line_of}
use Rattle.reply.specs.Reply.{reply_of}
use Rattle.demands.specs.Told.{Line, values_at, parse_within, choice_within, support_within, decoding_within, supplied_within}
use Rattle.demands.specs.Replies.{number_in, page_in, limit_in, decoding_in, answer_to, rest_of}
use Rattle.demands.specs.Limits.{limit_answer, OtherThanLimit, LengthsFirst, LimitRefused}
use Rattle.demands.proofs.AnswerLines.{choice-gives, supplied-gives}
use Rattle.demands.proofs.Demand1.{decoding-gives, supplied-decoding-gives, parse-in}
use Rattle.demands.proofs.Replies.{page-whole, lines-answered}

-- ---- lengths come first

checked-lengths : (stored shifted : List ℕ) (m lim : ℕ) (r : Result Decoding Refused) → LengthsFirst stored shifted m (entry_checked stored shifted m lim r)
unfolding entry_checked entry_answer
checked-lengths stored shifted m lim r =
    record {
      page = λ n. rw (ne_eqb (length stored) 4096 n);
      out = λ e n. rw (eq-eqb (length stored) 4096 e, ne_eqb m 4096 n);
      bytes = λ e f n. rw (eq-eqb (length stored) 4096 e, eq-eqb m 4096 f, ne_eqb (length shifted) 4080 n);
    }

parse-short :
    (lim number : ℕ) (plain : List ℕ) (lenient : Bool)
    → (length plain ≡ 4096 → ⊥)
    → parsed_of lim number plain lenient ≡ Err (WrongPageLength (length plain))
unfolding parsed_of
parse-short lim number plain lenient n =
    ap (λ (d : Decision). parsed_by number plain (numbered number d)) (sym (decided-short lim plain lenient n))

-- ---- a limit that is out of range

fits-inside : (lim : ℕ) → 8 ≤ lim → lim ≤ 2048 → limit_fits lim ≡ true
unfolding limit_fits
fits-inside lim a b = and_yes (leb 8 lim) (leb lim 2048) (le-leb 8 lim a) (le-leb lim 2048 b)

module _ (o : Options) (out : limit_fits o.search_limit ≡ false) where
  entry-out : (n k : ℕ) → n ≡ 4096 → k ≡ 4080 → entry_answer n 4096 k o.search_limit ≡ Some (limit_answer o)
  unfolding entry_answer
  entry-out n k e f = rw (eq-eqb n 4096 e, eq-eqb k 4080 f, out)

  decoding-out :
      (number : ℕ) (stored : List ℕ) (fits : List Fit) (shifted anchors : List ℕ)
      → length stored ≡ 4096
      → length shifted ≡ 4080
      → decoding_of number stored fits shifted anchors o 4096 ≡ Err (refusal (limit_answer o))
  unfolding decoding_of entry_checked
  decoding-out number stored fits shifted anchors e f = rw (entry-out (length stored) (length shifted) e f)

  supplied-out :
      (number bv : ℕ) (stored : List ℕ) (fits : List Fit) (shifted : List ℕ)
      → length stored ≡ 4096
      → length shifted ≡ 4080
      → supplied_decoding_of number bv stored fits shifted o 4096 ≡ Err (refusal (limit_answer o))
  unfolding supplied_decoding_of entry_checked
  supplied-out number bv stored fits shifted e f = rw (entry-out (length stored) (length shifted) e f)

module _ (lim : ℕ) (plain : List ℕ) (out : limit_fits lim ≡ false) where
  parse-out : (number : ℕ) (lenient : Bool) → length plain ≡ 4096 → parsed_of lim number plain lenient ≡ Err (LimitOutOfRange lim)
  unfolding parsed_of
  parse-out number lenient e =
      ap (λ (d : Decision). parsed_by number plain (numbered number d)) (sym (decided-out lim plain lenient e out))

  row_out : (number : ℕ) (lenient : Bool) (r : ℕ) → length plain ≡ 4096 → row_answer_of lim number plain lenient r ≡ Some (LimitOutOfRange lim)
  row_out number lenient r e =
      ap (λ (p : Result Parsed Refusal). answer_in (result_and p (ok_or (row_of lim plain lenient r) (NoSuchRow r)))) (parse-out number lenient e)

  rows_out : (lenient : Bool) → rows_of lim plain lenient ≡ []
  unfolding rows_of decision_of
  rows_out lenient = rw out (go (eqb (length plain) 4096))
    where
      go : (b : Bool) → rows_in plain (listed_of (pick b (Err (unlisted.LimitOutOfRange lim)) (Err (unlisted.WrongLength (length plain))))) ≡ []
      go true = refl
      go false = refl

  test-out : (t : ℕ) → page_matches lim plain t ≡ false
  unfolding page_matches
  test-out t = rw (out, and-false)

-- of a frame, whose page is whole
module _ (line : List ℕ) (frame : is_frame line ≡ true) (out : limit_fits (limit_in line) ≡ false) where
  frame-out : answer_to line ≡ Some (LimitOutOfRange (limit_in line))
  unfolding answer_to decoding_in
  frame-out =
      let number : ℕ = number_in line in
      let stored : List ℕ = page_in line in
      let o : Options = options_of (option_bits (spelled line)) (least_count (spelled line)) (limit_in line) in
      rw frame
      (ap (λ (r : Result Decoding Refused). refused_answer r)
      (decoding-out o out number stored (fits_of number stored) (bytes_of number stored) (anchors_of (anchor_count line) (spelled line))
      (page-whole line frame) (summary-length number stored (page-whole line frame))))

  line-out : reply_of line ≡ line_of (20 ∷ big_bytes 8 (number_in line))
  line-out =
      let rest : rest_of line ≡ big_bytes 8 (number_in line) =
      lines-answered.refused line (ap (λ (x : Answer). is_accepted x) frame-out) ∙ rw frame refl in
      lines-answered.reply line ∙ ap₂ (λ (n : ℕ) (l : List ℕ). line_of (n ∷ l)) (ap (λ (x : Answer). number_of x) frame-out) rest

-- ---- a limit that fits

-- a table without the line 20 has no answer of that number
no-twenty : (lines : List Line) (x : Answer) → values_at 20 lines ≡ [] → values_at (number_of x) lines ≡ values_of x ∷ [] → OtherThanLimit x
no-twenty lines x none is e =
    let z : 0 ≡ length (values_of x ∷ []) = ap length (sym none ∙ ap (λ (n : ℕ). values_at n lines) (sym e) ∙ is) in
    omega arith

module _ (number : ℕ) (shifted : List ℕ) (n : ℕ) (o : Options) (good : limit_fits o.search_limit ≡ true) where
  choice-in : (anchors : List ℕ) → OtherThanLimit (refused_answer (choice_of number shifted anchors n o))
  unfolding values_at
  choice-in anchors =
      let lines : List Line = choice_within number shifted in
      no-twenty lines (refused_answer (choice_of number shifted anchors n o)) refl
      (choice-gives lines number shifted anchors n o refl (λ e. refl) refl refl (λ f. absurd (never_both f good))).is

  support-in : (bv : ℕ) → OtherThanLimit (refused_answer (supplied_of number bv shifted n o))
  unfolding values_at
  support-in bv =
      let lines : List Line = support_within number bv shifted in
      no-twenty lines (refused_answer (supplied_of number bv shifted n o)) refl
      (supplied-gives lines number bv refl refl shifted n o (λ e. refl) (λ f. absurd (never_both f good))).is

module _ (number : ℕ) (stored : List ℕ) (fits : List Fit) (shifted : List ℕ) (o : Options) (m : ℕ) (good : limit_fits o.search_limit ≡ true) where
  decoding-in : (anchors : List ℕ) → OtherThanLimit (refused_answer (decoding_of number stored fits shifted anchors o m))
  unfolding values_at
  decoding-in anchors =
      let lines : List Line = decoding_within number stored fits shifted m in
      no-twenty lines (refused_answer (decoding_of number stored fits shifted anchors o m)) refl
      (decoding-gives number stored fits shifted anchors o m lines refl (λ e. refl) (λ e. refl) refl refl refl refl refl (λ f. absurd (never_both f good))).is

  supplied-in : (bv : ℕ) → OtherThanLimit (refused_answer (supplied_decoding_of number bv stored fits shifted o m))
  unfolding values_at
  supplied-in bv =
      let lines : List Line = supplied_within number bv stored fits shifted m in
      no-twenty lines (refused_answer (supplied_decoding_of number bv stored fits shifted o m)) refl
      (supplied-decoding-gives number bv stored fits shifted o m lines refl (λ e. refl) (λ e. refl) refl refl (λ f. absurd (never_both f good))).is

module _ (lim number : ℕ) (plain : List ℕ) (lenient : Bool) (good : limit_fits lim ≡ true) where
  parse-within : OtherThanLimit (answer_in (parsed_of lim number plain lenient))
  unfolding values_at
  parse-within =
      let lines : List Line = parse_within lim number plain in
      no-twenty lines (answer_in (parsed_of lim number plain lenient)) refl
      (parse-in lim number plain lenient lines
      (record {
        zero = refl;
        one = refl;
        eight = refl;
        nine = refl;
        ten = refl;
        eleven = refl;
        twelve = refl;
        twenty = λ f. absurd (never_both f good);
      })
      ).is

  found-within :
      (r : ℕ) (p : Result Parsed Refusal) (s : Option Span)
      → OtherThanLimit (answer_in p)
      → OtherThanLimit (answer_in (result_and p (ok_or s (NoSuchRow r))))
  found-within r (Ok x) (Some s) h e = omega arith
  found-within r (Ok x) None h e = omega arith
  found-within r (Err x) s h e = h e

  row-within : (r : ℕ) → OtherThanLimit (row_answer_of lim number plain lenient r)
  row-within r = found-within r (parsed_of lim number plain lenient) (row_of lim plain lenient r) parse-within

pub limit-refused : LimitRefused
unfolding decoding_of supplied_decoding_of
limit-refused =
    record {
      range = limit-within;
      inside = fits-inside;
      decoding-lengths = λ number stored fits shifted anchors o m.
          checked-lengths stored shifted m o.search_limit (verdict_of number stored fits shifted anchors o);
      supplied-lengths = λ number bv stored fits shifted o m.
          checked-lengths stored shifted m o.search_limit (supplied_verdict number bv (row_count_of stored) fits shifted o);
      choice-length = λ number shifted anchors n o e. choice-refused number shifted anchors n o _ (asked-length (length shifted) o.search_limit e);
      support-length = λ number bv shifted n o e. supplied_refused number bv shifted n o _ (asked-length (length shifted) o.search_limit e);
      parse-length = parse-short;
      decoding = λ number stored fits shifted anchors o e f out. decoding-out o out number stored fits shifted anchors e f;
      supplied = λ number bv stored fits shifted o e f out. supplied-out o out number bv stored fits shifted e f;
      choice = λ number shifted anchors n o e out. choice-refused number shifted anchors n o _ (asked-limit (length shifted) o.search_limit e out);
      support = λ number bv shifted n o e out. supplied_refused number bv shifted n o _ (asked-limit (length shifted) o.search_limit e out);
      parse = λ lim number plain lenient e out. parse-out lim plain out number lenient e;
      row = λ lim number plain lenient r e out. row_out lim plain out number lenient r e;
      rows = λ lim plain lenient out. rows_out lim plain out lenient;
      test = λ lim plain t out. test-out lim plain out t;
      line = line-out;
      decoding-taken = λ number stored fits shifted anchors o m good. decoding-in number stored fits shifted o m good anchors;
      supplied-taken = λ number bv stored fits shifted o m good. supplied-in number stored fits shifted o m good bv;
      choice-taken = λ number shifted anchors n o good. choice-in number shifted n o good anchors;
      support-taken = λ number bv shifted n o good. support-in number shifted n o good bv;
      parse-taken = parse-within;
      row-taken = λ lim number plain lenient r good. row-within lim number plain lenient good r;
    }
