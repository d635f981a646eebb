-- Document 01, "Slots and rows": what the parse decides of a plain page, strictly or leniently, at the search limit `lim`. Assumes nothing.
use Rattle.std.specs.Prelude.{ℕ, ◌+◌, ◌*◌, List, [], ◌∷◌, Bool, true, false, ltb, eqb, length, Option, Some, None, Result, Ok, Err}
use Rattle.lists.specs.Cases.{pick}
use Rattle.lists.specs.Bytes.{byte_at}
use Rattle.slots.specs.Slots.{scanned_directory}
use Rattle.slots.specs.declared.scans.Scan.{Scan}
use Rattle.preludes.specs.Preludes.{prelude_of}
use Rattle.preludes.specs.declared.search.Prelude.{Prelude}
use Rattle.preludes.specs.declared.search.Prelude.TheVariants as prelude
use Rattle.answers.specs.Settings.{limit_fits}
use Rattle.answers.specs.Answers.{Answer, answer_in}
use Rattle.answers.specs.declared.kinds.Refusal.{Refusal}
use Rattle.answers.specs.declared.kinds.Refusal.TheVariants as refusal
use Rattle.answers.specs.declared.kinds.Reason.{Reason}
use Rattle.answers.specs.declared.kinds.Reason.TheVariants.{CountBelowFour, FewerThanEightLive, Unconfirmed}
use Rattle.answers.specs.declared.notices.WarningKind.{WarningKind}
use Rattle.answers.specs.declared.notices.WarningKind.TheVariants as warning
use Rattle.directory.specs.Directory.{inside_of}
use Rattle.directory.specs.declared.verdicts.Unlisted.{Unlisted}
use Rattle.directory.specs.declared.verdicts.Unlisted.TheVariants.{WrongLength, LimitOutOfRange, NoDirectory, NoPrelude, Truncated, Ambiguous, OffsetInside}
use Rattle.directory.specs.declared.verdicts.Listed.{Listed}
use Rattle.directory.specs.declared.verdicts.Decided.{Decided}

-- the refusals 1, 20 and 8 to 12, these last with the page number
abbrev pub refusal_of : ℕ → Unlisted → Refusal
refusal_of number (WrongLength n) = refusal.WrongPageLength n
refusal_of number (LimitOutOfRange lim) = refusal.LimitOutOfRange lim
refusal_of number (NoDirectory reason) = refusal.NoSlotDirectory number reason
refusal_of number NoPrelude = refusal.UnknownPrelude number
refusal_of number (Truncated found expected stop) = refusal.SlotDirectoryTruncated number found expected stop
refusal_of number Ambiguous = refusal.AmbiguousSlotDirectory number
refusal_of number (OffsetInside offset end) = refusal.SlotOffsetInDirectory number offset end

-- "refusals .. drop warnings", and have no directory
abbrev pub Decision : Type 0
Decision = Result Decided Unlisted

-- the decision of the page with that number
abbrev pub numbered : ℕ → Decision → Result Decided Refusal
numbered number (Ok d) = Ok d
numbered number (Err u) = Err (refusal_of number u)

-- 0, or a refusal's answer
abbrev pub answer_of : ℕ → Decision → Answer
answer_of number d = answer_in (numbered number d)

abbrev pub listed_of : Decision → Option Listed
listed_of (Ok d) = d.listed
listed_of (Err r) = None

-- one that a prelude declares, with n slots from s on; the scan's
abbrev pub declared_at : ℕ → ℕ → Listed
declared_at s n = record { start = s; count = n; declared = Some n }

abbrev pub scanned_as : Scan → Listed
scanned_as d = record { start = d.start; count = d.slots; declared = None }

abbrev pub taken : Option Listed → Option WarningKind → Option WarningKind → Decision
taken l first second = Ok (record { listed = l; first = first; second = second; third = None })

-- "n 1 to 3: always refused strictly (9 if no prelude, else 8); DIRECTORY takes a single one with a warning, and otherwise warns (9 or 11) and
-- has no directory"
abbrev pub few_of : Prelude → ℕ → Bool → Decision
few_of prelude.Missing n false = Err NoPrelude
few_of prelude.Missing n true = taken None (Some warning.UnknownPrelude) None
few_of (prelude.Truncated found stop) n false = Err NoPrelude
few_of (prelude.Truncated found stop) n true = taken None (Some warning.UnknownPrelude) None
few_of (prelude.One s) n false = Err (NoDirectory CountBelowFour)
few_of (prelude.One s) n true = taken (Some (declared_at s n)) (Some warning.UnverifiedDirectory) None
few_of prelude.Several n false = Err (NoDirectory CountBelowFour)
few_of prelude.Several n true = taken None (Some warning.AmbiguousSlotDirectory) None

-- the reasons of 8 that a scan gives: "2 fewer than 8 live; 3 unconfirmed", as slotted.rs's MIN_LIVE_SLOTS has it
abbrev pub reason_of : ℕ → Reason
reason_of live = pick (ltb live 8) FewerThanEightLive Unconfirmed

-- "the scan decides: found 8, not found 9"; with n = 0 "nothing found means no directory, accepted". Leniently `before` warns first, "then the
-- scan's directory is used with a warning, or, if n >= 4 and there is none, 9 warns". `counted`: n is not 0
abbrev pub unconfirmed_of : Option Scan → Bool → Bool → Option WarningKind → Decision
unconfirmed_of (Some d) false counted before = Err (NoDirectory (reason_of d.live))
unconfirmed_of (Some d) true counted before = taken (Some (scanned_as d)) before (Some warning.UnverifiedDirectory)
unconfirmed_of None lenient false before = taken None None None
unconfirmed_of None false true before = Err NoPrelude
unconfirmed_of None true true before = taken None before (Some warning.UnknownPrelude)

-- "n >= 4: one prelude is taken; none: 10 if truncated, else the scan decides ..; several: 11. Leniently .. 10 or 11 warns first"
abbrev pub many_of : Prelude → ℕ → Option Scan → Bool → Decision
many_of (prelude.One s) n f lenient = taken (Some (declared_at s n)) None None
many_of prelude.Missing n f lenient = unconfirmed_of f lenient true None
many_of (prelude.Truncated found stop) n f false = Err (Truncated found n stop)
many_of (prelude.Truncated found stop) n f true = unconfirmed_of f true true (Some (warning.SlotDirectoryTruncated found n))
many_of prelude.Several n f false = Err Ambiguous
many_of prelude.Several n f true = unconfirmed_of f true true (Some warning.AmbiguousSlotDirectory)

-- where the directory is, by the row count n
unfoldable pub found_of : ℕ → List ℕ → ℕ → Bool → Decision
found_of lim plain n lenient =
    pick (eqb n 0) (unconfirmed_of (scanned_directory lim plain) lenient false None)
    (pick (ltb n 4) (few_of (prelude_of lim plain n) n lenient) (many_of (prelude_of lim plain n) n (scanned_directory lim plain) lenient))

-- "last, a live offset inside the directory: 12 with the first in slot order, or warned and dropped": one warning, with the number dropped
abbrev pub inside_checked_by : Bool → Decided → ℕ → List ℕ → Decision
inside_checked_by lenient d end [] = Ok d
inside_checked_by false d end (v ∷ l) = Err (OffsetInside v end)
inside_checked_by true d end (v ∷ l) =
    Ok (record { listed = d.listed; first = d.first; second = d.second; third = Some (warning.SlotOffsetsInDirectory (length (v ∷ l))) })

abbrev pub listed_checked : List ℕ → Bool → Decided → Option Listed → Decision
listed_checked plain lenient d None = Ok d
listed_checked plain lenient d (Some l) = inside_checked_by lenient d (l.start + 2 * l.count) (inside_of plain l.start l.count)

abbrev pub inside_checked : List ℕ → Bool → Decision → Decision
inside_checked plain lenient (Ok d) = listed_checked plain lenient d d.listed
inside_checked plain lenient (Err r) = Err r

-- the parse: 1, then 20 for a limit out of range, then where the directory is, then the offsets inside it. The row count is at 0xFF0
unfoldable pub decision_of : ℕ → List ℕ → Bool → Decision
decision_of lim plain lenient =
    pick (eqb (length plain) 4096)
    (pick (limit_fits lim) (inside_checked plain lenient (found_of lim plain (byte_at plain 0xFF0) lenient)) (Err (LimitOutOfRange lim)))
    (Err (WrongLength (length plain)))

abbrev pub page_decision : ℕ → ℕ → List ℕ → Bool → Result Decided Refusal
page_decision lim number plain lenient = numbered number (decision_of lim plain lenient)
