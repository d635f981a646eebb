-- The layouts of what is told of a plain page's rows, each a list of fields, and how many bytes each takes. Assumes nothing.
use Rattle.std.specs.Prelude.{ℕ, ◌+◌, Bool, List, [], ◌∷◌, ◌++◌, Option, length}
use Rattle.answers.specs.Answers.{Answer, answer_in}
use Rattle.slotted.specs.Parses.{parsed_of}
use Rattle.rows.specs.Rows.{start_of, end_of}
use Rattle.rows.specs.RowAnswers.{rows_of}
use Rattle.rows.specs.declared.spans.Span.{Span}
use Rattle.fields.specs.Fields.{Field, little, layout_bytes}
use Rattle.parts.specs.Parts.{answer_size, answer_fields, slots_size, slots_fields}

-- how many there are
unfoldable pub row_count_fields : Answer → ℕ → List Field
row_count_fields x n = answer_fields x ++ (little 2 n ∷ [])

abbrev pub row_count_size : ℕ
row_count_size = answer_size + 2

abbrev pub row_count_bytes : Answer → ℕ → List ℕ
row_count_bytes x n = layout_bytes (row_count_fields x n)

-- where one lies; 0 and 0 of none
unfoldable pub row_fields : Answer → Option Span → List Field
row_fields x s = answer_fields x ++ (little 2 (start_of s) ∷ little 2 (end_of s) ∷ [])

abbrev pub row_size : ℕ
row_size = answer_size + 4

abbrev pub row_bytes_of : Answer → Option Span → List ℕ
row_bytes_of x s = layout_bytes (row_fields x s)

-- all: how many, and where each starts
unfoldable pub list_fields : List ℕ → List Field
list_fields rows = little 2 (length rows) ∷ slots_fields rows

unfoldable pub rows_fields : Answer → List ℕ → List Field
rows_fields x rows = answer_fields x ++ list_fields rows

abbrev pub rows_size : ℕ
rows_size = answer_size + 2 + slots_size

abbrev pub rows_bytes : Answer → List ℕ → List ℕ
rows_bytes x rows = layout_bytes (rows_fields x rows)

-- those of a page, beside the parse's answer
abbrev pub page_rows_bytes : ℕ → ℕ → List ℕ → Bool → List ℕ
page_rows_bytes lim number plain lenient = rows_bytes (answer_in (parsed_of lim number plain lenient)) (rows_of lim plain lenient)
