-- What the parse says in a small value: a refusal, or where the directory is and the warnings that are given. Assumes nothing.
use Rattle.std.specs.Prelude.{ℕ, Bool, List, Option, Some, None, Result, Ok, Err}
use Rattle.answers.specs.Tables.{empty}
use Rattle.answers.specs.Warns.{with_warning}
use Rattle.answers.specs.declared.kinds.Refusal.{Refusal}
use Rattle.answers.specs.declared.tables.Table.{Table}
use Rattle.answers.specs.declared.notices.WarningKind.{WarningKind}
use Rattle.answers.specs.declared.notices.Warning.{Warning}
use Rattle.directory.specs.Decisions.{page_decision}
use Rattle.directory.specs.declared.verdicts.Decided.{Decided}
use Rattle.slotted.specs.declared.locations.Located.{Located}

-- one warning of a page more, where it is given: "each carries the Rust's fields", the page's number beside its kind
abbrev pub warned : {n : ℕ} → Table Warning n → ℕ → Option WarningKind → Table Warning n
warned t number None = t
warned t number (Some kind) = with_warning t number kind

-- those of a page that is accepted, in their order, in a table of any size
abbrev pub decided_warnings : {n : ℕ} → ℕ → Decided → Table Warning n
decided_warnings number d = warned (warned (warned empty number d.first) number d.second) number d.third

-- a refusal drops them
abbrev pub located_by : ℕ → Result Decided Refusal → Result Located Refusal
located_by number (Ok d) = Ok (record { listed = d.listed; warnings = decided_warnings number d })
located_by number (Err r) = Err r

unfoldable pub located_of : ℕ → ℕ → List ℕ → Bool → Result Located Refusal
located_of lim number plain lenient = located_by number (page_decision lim number plain lenient)
