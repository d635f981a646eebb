-- The layout of a parse, a list of fields, and how many bytes it takes. Assumes nothing.
use Rattle.std.specs.Prelude.{ℕ, ◌+◌, ◌*◌, Bool, List, [], ◌∷◌, ◌++◌, Option, None, Result, is_some, unwrap_or}
use Rattle.std.specs.Result.{result_unwrap_or}
use Rattle.lists.specs.Cases.{flag}
use Rattle.answers.specs.Tables.{empty}
use Rattle.answers.specs.Answers.{Answer, answer_in}
use Rattle.answers.specs.declared.kinds.Refusal.{Refusal}
use Rattle.slotted.specs.Parses.{table_of}
use Rattle.slotted.specs.declared.directories.SlotDirectory.{SlotDirectory}
use Rattle.slotted.specs.declared.directories.Parsed.{Parsed}
use Rattle.fields.specs.Fields.{Field, little, layout_bytes}
use Rattle.parts.specs.Parts.{answer_size, answer_fields, warning_size, warnings_fields, slots_size, slots_fields}

-- whether a prelude declared the number of slots, and which
abbrev pub declared_flag : Option ℕ → ℕ
declared_flag d = flag (is_some d)

abbrev pub declared_count : Option ℕ → ℕ
declared_count d = unwrap_or d 0

-- where there is no directory all of it is 0
abbrev pub no_directory : SlotDirectory
no_directory = record { array_start = 0; end = 0; slots = table_of []; len = 0; declared = None }

-- whether there is a directory, start, end, how many slots, the declared number
unfoldable pub directory_fields : Bool → SlotDirectory → List Field
directory_fields found d =
    little 1 (flag found)
    ∷ little 2 d.array_start
    ∷ little 2 d.end
    ∷ little 2 d.len
    ∷ little 1 (declared_flag d.declared)
    ∷ little 2 (declared_count d.declared)
    ∷ []

-- the answer part, the directory, its slots, how many warnings, three places
unfoldable pub told_fields : Answer → Parsed → List Field
told_fields x p =
    ((answer_fields x ++ directory_fields (is_some p.directory) (unwrap_or p.directory no_directory))
    ++ slots_fields (unwrap_or p.directory no_directory).slots)
    ++ (little 2 p.warnings.len ∷ warnings_fields p.warnings.items 3)

-- beside a refusal there is no directory and no warning: all of it is 0
abbrev pub nothing_parsed : Parsed
nothing_parsed = record { directory = None; warnings = empty }

abbrev pub parse_fields : Result Parsed Refusal → List Field
parse_fields p = told_fields (answer_in p) (result_unwrap_or p nothing_parsed)

abbrev pub parse_size : ℕ
parse_size = answer_size + 10 + slots_size + 2 + 3 * warning_size

abbrev pub parse_bytes : Result Parsed Refusal → List ℕ
parse_bytes p = layout_bytes (parse_fields p)
