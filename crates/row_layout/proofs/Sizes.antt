-- How many bytes the layouts take, whatever they hold. Assumes nothing.
use Rattle.std.proofs.Common.{Option}
use Prim.Native.Nat.{ℕ, ◌+◌}
use mathlib.Core.Path.{◌≡◌}
use mathlib.Core.List.{List}
use native.Mathlib.Omega.{arith}
use Rattle.answers.specs.Answers.{Answer}
use Rattle.rows.specs.declared.spans.Span.{Span}
use Rattle.fields.specs.Fields.{width_of, size_of}
use Rattle.fields.proofs.Sizes.{size-append}
use Rattle.parts.specs.Parts.{slots_size}
use Rattle.parts.proofs.Sizes.{answer-size, slots-size}
use Rattle.row_layout.specs.RowLayouts.{row_count_fields, row_count_size, row_fields, row_size, list_fields, rows_fields, rows_size}

pub row-count-size : (x : Answer) (n : ℕ) → size_of (row_count_fields x n) ≡ row_count_size
unfolding row_count_fields size_of width_of
row-count-size x n = simp size-append (omega (arith, answer-size x))

pub row-size : (x : Answer) (s : Option Span) → size_of (row_fields x s) ≡ row_size
unfolding row_fields size_of width_of
row-size x s = simp size-append (omega (arith, answer-size x))

pub list-size : (rows : List ℕ) → size_of (list_fields rows) ≡ 2 + slots_size
unfolding list_fields size_of width_of
list-size rows = omega (arith, slots-size rows)

pub rows-size : (x : Answer) (rows : List ℕ) → size_of (rows_fields x rows) ≡ rows_size
unfolding rows_fields
rows-size x rows = simp size-append (omega (arith, answer-size x, list-size rows))
