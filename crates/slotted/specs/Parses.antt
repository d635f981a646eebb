-- The parse: the directory with its table of 1,024 slots, and the warnings in a table of 1,026; and what the small value says of it. Assumes nothing.
use Rattle.std.specs.Prelude.{ℕ, ◌+◌, ◌-◌, ◌*◌, min, ◌≡◌, List, ◌++◌, Bool, None, Result, Ok, Err, option_map, length, replicate, take, drop}
use Rattle.answers.specs.declared.kinds.Refusal.{Refusal}
use Rattle.directory.specs.Directory.{slots_of}
use Rattle.directory.specs.Decisions.{page_decision}
use Rattle.directory.specs.declared.verdicts.Listed.{Listed}
use Rattle.directory.specs.declared.verdicts.Decided.{Decided}
use Rattle.slotted.specs.Locations.{decided_warnings}
use Rattle.slotted.specs.declared.locations.Located.{Located}
use Rattle.slotted.specs.declared.directories.SlotDirectory.{SlotDirectory}
use Rattle.slotted.specs.declared.directories.Parsed.{Parsed}

-- slots, and zeros after them
abbrev pub table_of : List ℕ → List ℕ
table_of l = l ++ replicate (1024 - length l) 0

-- array start, end, table of slots, length, declared count or none
abbrev pub directory_with : List ℕ → Listed → SlotDirectory
directory_with slots l = record {
  array_start = l.start;
  end = l.start + 2 * l.count;
  slots = table_of slots;
  len = l.count;
  declared = l.declared;
}

abbrev pub directory_of : List ℕ → Listed → SlotDirectory
directory_of plain l = directory_with (slots_of plain l.start (min l.count 1024)) l

abbrev pub parsed_by : ℕ → List ℕ → Result Decided Refusal → Result Parsed Refusal
parsed_by number plain (Ok d) = Ok (record { directory = option_map (directory_of plain) d.listed; warnings = decided_warnings number d })
parsed_by number plain (Err r) = Err r

unfoldable pub parsed_of : ℕ → ℕ → List ℕ → Bool → Result Parsed Refusal
parsed_of lim number plain lenient = parsed_by number plain (page_decision lim number plain lenient)

-- What the small value says of a page that is accepted: the same directory and slots, and all the warnings that the parse has
pub record SaysParsed (plain : List ℕ) (l : Located) (p : Parsed) : Type 0 where
  pub directory : option_map (λ d. directory_with (slots_of plain d.start d.count) d) l.listed ≡ p.directory
  pub warnings : l.warnings.len ≡ p.warnings.len
  pub first_three : l.warnings.items ≡ take 3 p.warnings.items
  pub no_other : drop 3 p.warnings.items ≡ replicate 1023 None

-- What it says is the parse's: the same refusal, or the same of the page
abbrev pub SaysTheParse : List ℕ → Result Located Refusal → Result Parsed Refusal → Type 0
SaysTheParse plain (Ok l) (Ok p) = SaysParsed plain l p
SaysTheParse plain (Ok l) (Err s) = ⊥
SaysTheParse plain (Err r) (Ok p) = ⊥
SaysTheParse plain (Err r) (Err s) = r ≡ s
