-- The lines of the answers that a parse can give, in any table that has them. Assumes nothing.
use Prim.Native.Nat.{ℕ, ◌+◌, ◌*◌}
use mathlib.Core.Path.{◌≡◌, refl, ap, ap₂, ◌∙◌, subst}
use mathlib.Core.Bool.{Bool, true, false}
use mathlib.Core.List.{List, [], ◌∷◌}
use native.Mathlib.Omega.{arith}
use borrow.Author.Tests.{eqb-true, eqb-false, lt-ltb, le-ltb}
use lib.Dec.{eqb, ltb}
use lib.ListN.{length}
use Rattle.std.specs.Prelude.{Option, Some, None, Ok, Err}
use Rattle.lists.specs.Cases.{pick}
use Rattle.lists.proofs.Booleans.{and_yes, and-no-left, and-no-right}
use Rattle.lists.proofs.Picks.{pick-case}
use Rattle.answers.specs.Answers.{reason_number, refusal_number, refusal_values}
use Rattle.answers.specs.Settings.{limit_fits}
use Rattle.answers.specs.declared.kinds.Reason.TheVariants.{CountBelowFour, FewerThanEightLive, Unconfirmed}
use Rattle.answers.specs.declared.notices.WarningKind.{WarningKind}
use Rattle.answers.specs.declared.notices.WarningKind.TheVariants as warning
use Rattle.page.specs.Trailer.{row_count_of}
use Rattle.slots.specs.Slots.{scanned_directory}
use Rattle.slots.specs.declared.scans.Scan.{Scan}
use Rattle.preludes.specs.Preludes.{prelude_of}
use Rattle.preludes.specs.declared.search.Prelude.{Prelude}
use Rattle.preludes.specs.declared.search.Prelude.TheVariants as prelude
use Rattle.directory.specs.Directory.{inside_of}
use Rattle.directory.specs.Decisions.{Decision, refusal_of, answer_of, listed_of, few_of, reason_of, unconfirmed_of, many_of, found_of, inside_checked_by, listed_checked, inside_checked, decision_of}
use Rattle.directory.specs.declared.verdicts.Unlisted.{Unlisted}
use Rattle.directory.specs.declared.verdicts.Unlisted.TheVariants as unlisted
use Rattle.directory.specs.declared.verdicts.Listed.{Listed}
use Rattle.directory.specs.declared.verdicts.Decided.{Decided}
use Rattle.rows.specs.Rows.{head_or}
use Rattle.demands.specs.Told.{Line, OneOf, live_in, is_few, reason_at, found_in, stop_in, prelude_at, offset_in, offset_at, end_in, end_at}
use Rattle.demands.proofs.AnswerLines.{Has}

-- a table has the lines of a parse
pub record HasParse (lines : List Line) (lim number : ℕ) (plain : List ℕ) : Type 0 where
  pub zero : Has lines 0 []
  pub one : Has lines 1 (length plain ∷ [])
  pub eight : Has lines 8 (number ∷ reason_at lim plain ∷ [])
  pub nine : Has lines 9 (number ∷ [])
  pub ten : Has lines 10 (number ∷ found_in (prelude_at lim plain) ∷ row_count_of plain ∷ stop_in (prelude_at lim plain) ∷ [])
  pub eleven : Has lines 11 (number ∷ [])
  pub twelve : Has lines 12 (number ∷ offset_at lim plain ∷ end_at lim plain ∷ [])
  pub twenty : limit_fits lim ≡ false → Has lines 20 (lim ∷ [])

-- what is decided stands in a table
abbrev pub Settles : List Line → ℕ → Decision → Type 0
Settles lines number d = OneOf lines (answer_of number d)

module _ (lines : List Line) (lim number : ℕ) (plain : List ℕ) (h : HasParse lines lim number plain) where
  abbrev n : ℕ
  n = row_count_of plain

  refused-is : (u : Unlisted) → Has lines (refusal_number (refusal_of number u)) (refusal_values (refusal_of number u)) → Settles lines number (Err u)
  refused-is u e = record { is = e }

  -- the reasons of 8
  few-reason : is_few n ≡ true → reason_at lim plain ≡ 1
  unfolding reason_at
  few-reason k = rw k

  scan-reason : (live : ℕ) → is_few n ≡ false → live_in (scanned_directory lim plain) ≡ live → reason_at lim plain ≡ reason_number (reason_of live)
  unfolding reason_at
  scan-reason live k e = rw (k, e) (go (ltb live 8))
    where
      go : (b : Bool) → pick b 2 3 ≡ reason_number (pick b FewerThanEightLive Unconfirmed)
      go true = refl
      go false = refl

  eight_is : (v : ℕ) → reason_at lim plain ≡ v → Has lines 8 (number ∷ v ∷ [])
  eight_is v e = h.eight ∙ ap (λ (x : ℕ). (number ∷ x ∷ []) ∷ []) e

  -- by the row count
  on-scan :
      (f : Option Scan) (lenient counted : Bool) (before : Option WarningKind)
      → scanned_directory lim plain ≡ f
      → is_few n ≡ false
      → Settles lines number (unconfirmed_of f lenient counted before)
  on-scan (Some d) false counted before e k =
      refused-is (unlisted.NoDirectory (reason_of d.live)) (eight_is _ (scan-reason d.live k (ap live_in e)))
  on-scan (Some d) true counted before e k = record { is = h.zero }
  on-scan None false false before e k = record { is = h.zero }
  on-scan None true false before e k = record { is = h.zero }
  on-scan None false true before e k = refused-is unlisted.NoPrelude h.nine
  on-scan None true true before e k = record { is = h.zero }

  on-few : (p : Prelude) (lenient : Bool) → is_few n ≡ true → Settles lines number (few_of p n lenient)
  on-few prelude.Missing false k = refused-is unlisted.NoPrelude h.nine
  on-few prelude.Missing true k = record { is = h.zero }
  on-few (prelude.Truncated found stop) false k = refused-is unlisted.NoPrelude h.nine
  on-few (prelude.Truncated found stop) true k = record { is = h.zero }
  on-few (prelude.One s) false k = refused-is (unlisted.NoDirectory CountBelowFour) (eight_is 1 (few-reason k))
  on-few (prelude.One s) true k = record { is = h.zero }
  on-few prelude.Several false k = refused-is (unlisted.NoDirectory CountBelowFour) (eight_is 1 (few-reason k))
  on-few prelude.Several true k = record { is = h.zero }

  on-many :
      (p : Prelude) (lenient : Bool)
      → prelude_of lim plain n ≡ p
      → is_few n ≡ false
      → Settles lines number (many_of p n (scanned_directory lim plain) lenient)
  on-many (prelude.One s) lenient e k = record { is = h.zero }
  on-many prelude.Missing lenient e k = on-scan (scanned_directory lim plain) lenient true None refl k
  on-many (prelude.Truncated found stop) false e k =
      refused-is (unlisted.Truncated found n stop) (h.ten ∙ ap (λ (q : Prelude). (number ∷ found_in q ∷ n ∷ stop_in q ∷ []) ∷ []) e)
  on-many (prelude.Truncated found stop) true e k =
      on-scan (scanned_directory lim plain) true true (Some (warning.SlotDirectoryTruncated found n)) refl k
  on-many prelude.Several false e k = refused-is unlisted.Ambiguous h.eleven
  on-many prelude.Several true e k = on-scan (scanned_directory lim plain) true true (Some warning.AmbiguousSlotDirectory) refl k

  on-found : (lenient : Bool) → Settles lines number (found_of lim plain n lenient)
  unfolding found_of
  on-found lenient =
      let none : Decision = unconfirmed_of (scanned_directory lim plain) lenient false None in
      let few : Decision = few_of (prelude_of lim plain n) n lenient in
      let many : Decision = many_of (prelude_of lim plain n) n (scanned_directory lim plain) lenient in
      pick-case (Settles lines number) (eqb n 0) none (pick (ltb n 4) few many)
      (λ e.
      on-scan (scanned_directory lim plain) lenient false None refl
      (and-no-left (ltb 0 n) (ltb n 4) (le-ltb 0 n (omega (arith, eqb-true n 0 e)))))
      (λ e.
      pick-case (Settles lines number) (ltb n 4) few many
      (λ f. on-few (prelude_of lim plain n) lenient (and_yes (ltb 0 n) (ltb n 4) (lt-ltb 0 n (omega (arith, eqb-false n 0 e))) f))
      (λ f. on-many (prelude_of lim plain n) lenient refl (and-no-right (ltb 0 n) (ltb n 4) f)))

  -- offsets inside the directory
  on-inside :
      (lenient : Bool) (d : Decided) (l : Listed) (inside : List ℕ)
      → listed_of (found_of lim plain n lenient) ≡ Some l
      → inside_of plain l.start l.count ≡ inside
      → Settles lines number (inside_checked_by lenient d (l.start + 2 * l.count) inside)
  unfolding offset_at end_at
  on-inside true d l [] e f = record { is = h.zero }
  on-inside true d l (v ∷ more) e f = record { is = h.zero }
  on-inside false d l [] e f = record { is = h.zero }
  on-inside false d l (v ∷ more) e f =
      refused-is (unlisted.OffsetInside v (l.start + 2 * l.count))
      (h.twelve ∙ ap₂ (λ (x y : ℕ). (number ∷ x ∷ y ∷ []) ∷ []) (ap (offset_in plain) e ∙ ap (head_or 0) f) (ap end_in e))

  on-listed :
      (lenient : Bool) (d : Decided) (l : Option Listed)
      → listed_of (found_of lim plain n lenient) ≡ l
      → Settles lines number (listed_checked plain lenient d l)
  on-listed lenient d None e = record { is = h.zero }
  on-listed lenient d (Some l) e = on-inside lenient d l (inside_of plain l.start l.count) e refl

  on-checked :
      (lenient : Bool) (d : Decision) → found_of lim plain n lenient ≡ d → Settles lines number (inside_checked plain lenient d)
  on-checked lenient (Ok d) e = on-listed lenient d d.listed (ap listed_of e)
  on-checked lenient (Err u) e = subst (Settles lines number) e (on-found lenient)

  pub decision-settles : (lenient : Bool) → Settles lines number (decision_of lim plain lenient)
  unfolding decision_of
  decision-settles lenient =
      let inside : Decision = inside_checked plain lenient (found_of lim plain n lenient) in
      let out : Decision = Err (unlisted.LimitOutOfRange lim) in
      pick-case (Settles lines number) (eqb (length plain) 4096) (pick (limit_fits lim) inside out) (Err (unlisted.WrongLength (length plain)))
      (λ e.
      pick-case (Settles lines number) (limit_fits lim) inside out (λ f. on-checked lenient (found_of lim plain n lenient) refl)
      (λ f. refused-is (unlisted.LimitOutOfRange lim) (h.twenty f)))
      (λ e. refused-is (unlisted.WrongLength (length plain)) h.one)
