-- Document 01, "Rows: 1, the parse, 16; every refusal gives the empty part". Assumes nothing.
use Rattle.std.specs.Prelude.{ℕ, ◌≡◌, List, [], Bool, Option, Some, None, Result, Ok, ok_or, length, take}
use Rattle.std.specs.Result.{result_and}
use Rattle.lists.specs.Pieces.{over}
use Rattle.answers.specs.Answers.{Answer, answer_in}
use Rattle.answers.specs.declared.kinds.Refusal.{Refusal}
use Rattle.answers.specs.declared.kinds.Refusal.TheVariants.{NoSuchRow}
use Rattle.directory.specs.Decisions.{listed_of, decision_of}
use Rattle.slotted.specs.Parses.{parsed_of}
use Rattle.directory.specs.declared.verdicts.Listed.{Listed}
use Rattle.rows.specs.Rows.{rows_at, row_in}
use Rattle.rows.specs.declared.spans.Span.{Span}

-- the rows of what is listed
abbrev pub rows_in : List ℕ → Option Listed → List ℕ
rows_in plain None = []
rows_in plain (Some l) = rows_at plain l.start l.count

-- where the page's rows start, ascending; none where the parse refuses
unfoldable pub rows_of : ℕ → List ℕ → Bool → List ℕ
rows_of lim plain lenient = rows_in plain (listed_of (decision_of lim plain lenient))

-- row number r
abbrev pub row_of : ℕ → List ℕ → Bool → ℕ → Option Span
row_of lim plain lenient r = row_in r (rows_of lim plain lenient)

-- asking for it: the parse's refusals, and 16, "no such row: row number"
abbrev pub row_found_of : ℕ → ℕ → List ℕ → Bool → ℕ → Result Span Refusal
row_found_of lim number plain lenient r = result_and (parsed_of lim number plain lenient) (ok_or (row_of lim plain lenient r) (NoSuchRow r))

abbrev pub row_answer_of : ℕ → ℕ → List ℕ → Bool → ℕ → Answer
row_answer_of lim number plain lenient r = answer_in (row_found_of lim number plain lenient r)

-- how many rows there are, where the parse accepts
abbrev pub rows_counted_of : ℕ → ℕ → List ℕ → Bool → Result ℕ Refusal
rows_counted_of lim number plain lenient = result_and (parsed_of lim number plain lenient) (Ok (length (rows_of lim plain lenient)))

-- where all rows start, in a lent buffer: as many as have room, and what stands behind them stays
abbrev pub starts_in : List ℕ → List ℕ → List ℕ
starts_in rows starts = over starts 0 (take (length starts) rows)

-- what `row_starts` answers, and leaves in the buffer
pub record StartsWritten (lim number : ℕ) (plain : List ℕ) (lenient : Bool) (starts starts_at_exit : List ℕ) (n : Result ℕ Refusal) : Type 0 where
  pub counted : n ≡ rows_counted_of lim number plain lenient
  pub written : starts_at_exit ≡ starts_in (rows_of lim plain lenient) starts

-- the same of a directory's rows; only private code needs it
pub record StartsListed (rows starts starts_at_exit : List ℕ) (n : ℕ) : Type 0 where
  pub many : n ≡ length rows
  pub written : starts_at_exit ≡ starts_in rows starts
