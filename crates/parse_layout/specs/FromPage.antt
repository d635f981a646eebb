-- private: no part of the layouts. What is put of a parse, part by part, from the page. Assumes nothing.
use Rattle.std.specs.Prelude.{ℕ, ◌+◌, ◌-◌, ◌*◌, List, [], ◌∷◌, ◌++◌, length, replicate, Bool, true, false, Option, Some, None}
use Rattle.lists.specs.Cases.{flag}
use Rattle.directory.specs.Directory.{slots_of}
use Rattle.slotted.specs.Parses.{table_of}
use Rattle.directory.specs.declared.verdicts.Listed.{Listed}
use Rattle.answers.specs.declared.tables.Table.{Table}
use Rattle.answers.specs.declared.notices.Warning.{Warning}
use Rattle.fields.specs.Fields.{Field, little}
use Rattle.parts.specs.Parts.{warnings_fields, slots_size, slots_fields}
use Rattle.parse_layout.specs.ParseLayouts.{declared_flag, declared_count}

-- the directory that is listed, and its slots
unfoldable pub listed_fields : Bool → Listed → List Field
listed_fields found l =
    little 1 (flag found)
    ∷ little 2 l.start
    ∷ little 2 (l.start + 2 * l.count)
    ∷ little 2 l.count
    ∷ little 1 (declared_flag l.declared)
    ∷ little 2 (declared_count l.declared)
    ∷ []

unfoldable pub found_fields : List ℕ → Bool → Listed → List Field
found_fields plain found l = listed_fields found l ++ slots_fields (table_of (slots_of plain l.start l.count))

-- where none is listed, no slots at 0
abbrev pub listed_or_zeros : List ℕ → Option Listed → List Field
listed_or_zeros plain (Some l) = found_fields plain true l
listed_or_zeros plain None = found_fields plain false (record { start = 0; count = 0; declared = None })

-- bytes of slots, and zeros up to the end of their table
abbrev pub padded_slots : List ℕ → List ℕ
padded_slots bytes = bytes ++ replicate (slots_size - length bytes) 0

-- the warnings that are given: how many, and three places
unfoldable pub given_fields : Table Warning 3 → List Field
given_fields t = little 2 t.len ∷ warnings_fields t.items 3
