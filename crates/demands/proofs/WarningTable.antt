-- The warnings of a decoding, and that none is lost: the table has room for one on integrity, one on the choice, and one for each sector. Assumes nothing.
use Prim.Native.Nat.{ℕ, zero, suc, ◌+◌, ◌≤◌, ◌<◌}
use mathlib.Core.Path.{◌≡◌, ap, ◌∙◌, subst}
use mathlib.Core.Bool.{Bool, true, false, not}
use mathlib.Core.List.{List}
use native.Mathlib.Omega.{arith}
use borrow.Author.Tests.{lt-leb}
use lib.Dec.{ltb}
use Rattle.std.specs.Prelude.{Option, Some, None, is_some, Result, Ok, Err}
use Rattle.lists.specs.Cases.{pick, flag}
use Rattle.lists.specs.Counts.{how_many}
use Rattle.lists.proofs.Many.{many-le}
use Rattle.lists.proofs.Picks.{pick-case, pick_true, pick-false, never_both, flag-le}
use Rattle.answers.specs.Answers.{Answer}
use Rattle.answers.specs.Settings.{keystream}
use Rattle.answers.specs.Tables.{empty, with_item}
use Rattle.answers.specs.Warns.{Warnings, with_warning}
use Rattle.answers.specs.declared.notices.WarningKind.{WarningKind}
use Rattle.answers.specs.declared.notices.WarningKind.TheVariants as warning
use Rattle.answers.specs.declared.settings.Options.{Options}
use Rattle.sector.specs.Fit.{confident_of}
use Rattle.sector.specs.declared.fits.Fit.{Fit}
use Rattle.page.specs.Trailer.{row_count_of}
use Rattle.page.specs.Integrity.{integrity_of, is_unallocated}
use Rattle.choice.specs.declared.Choice.{Choice}
use Rattle.choice.specs.declared.Refused.{Refused}
use Rattle.choice.specs.Rules.{choice_of}
use Rattle.choice.specs.Supplied.{supplied_of}
use Rattle.verdict.specs.declared.Decoding.{Decoding}
use Rattle.verdict.specs.Sectors.{entry, refit_of, first_weak, sector_warnings}
use Rattle.verdict.specs.Verdict.{warning_noted, sectors_decide, settled_of, integrity_warning, verdict_by, verdict_of}
use Rattle.decode.specs.Decode.{entry_checked, decoding_of, supplied_decoding_of}
use Rattle.demands.specs.Warned.{warnings_after, warns, in_doubt, Warned}
use Rattle.demands.proofs.DecodingCases.{verdict-case, checked-case}
use Rattle.demands.proofs.Refusals.{ok-same}

one_more : (t : Warnings) (number : ℕ) (k : WarningKind) → t.len < 10 → (with_warning t number k).len ≡ t.len + 1
unfolding with_item
one_more t number k h = rw (lt-leb 10 t.len h)

noted-number : (number : ℕ) (w : Option WarningKind) (t : Warnings) → t.len < 10 → (warning_noted number w t).len ≡ t.len + flag (is_some w)
noted-number number None t h = omega arith
noted-number number (Some w) t h = one_more t number w h

-- and one for each sector in doubt
sectors-number : (number : ℕ) (fits : List Fit) (t : Warnings) (n : ℕ) → t.len + n ≤ 10 → (sector_warnings number fits t n).len ≡ t.len + in_doubt fits n
unfolding sector_warnings how_many
sectors-number number fits t zero h = omega arith
sectors-number number fits t (suc n) h = go (sectors-number number fits t n (omega arith)) (confident_of (entry fits n))
  where
    kind : WarningKind
    kind = warning.LowConfidenceSector n (entry fits n).peak (entry fits n).runner_up

    go :
        (sector_warnings number fits t n).len ≡ t.len + in_doubt fits n
        → (b : Bool)
        → (pick b (sector_warnings number fits t n) (with_warning (sector_warnings number fits t n) number kind)).len ≡ t.len + (in_doubt fits n + flag (not b))
    go ih true = omega (arith, ih)
    go ih false =
        omega
        (arith, ih, one_more (sector_warnings number fits t n) number kind (omega (arith, ih, many-le (λ s. not (confident_of (entry fits s))) n)))

-- ---- a decoding's warnings

-- of a decoding that accepts, after the warnings ws
module _ (number : ℕ) (o : Options) (ws : Warnings) where
  Right : Result Decoding Refused → Type 0
  Right r = (d : Decoding) → r ≡ Ok d → d.warnings ≡ warnings_after number (keystream o) d.fits d.choice ws

  right-taken :
      (d : Decoding) → d.warnings ≡ warnings_after number (keystream o) d.fits d.choice ws → Right (Ok d)
  unfolding Right
  right-taken d e x h = subst (λ (y : Decoding). y.warnings ≡ warnings_after number (keystream o) y.fits y.choice ws) (ok-same h) e

  right-refused : (e : Refused) → Right (Err e)
  unfolding Right
  right-refused e x h = cc

  settled-warned : (fits : List Fit) (c : Result Choice Refused) → Right (settled_of number (keystream o) fits c ws)
  unfolding settled_of sectors_decide warnings_after
  settled-warned fits (Err e) = right-refused e
  settled-warned fits (Ok c) =
      let all : Warnings = warning_noted number c.warned ws in
      let plain : Decoding = record { choice = c; fits = fits; warnings = all } in
      let warned : Decoding = record { choice = c; fits = fits; warnings = sector_warnings number fits all 8 } in
      pick-case Right (keystream o) (Ok warned) _ (λ l. right-taken warned (pick_true _ _ l))
      (λ l. pick-case Right (ltb (first_weak fits) 8) _ (Ok plain) (λ k. right-refused _) (λ k. right-taken plain (pick-false _ _ l)))

  checked-warned :
      (stored shifted : List ℕ) (m lim : ℕ) (r : Result Decoding Refused)
      → is_unallocated stored ≡ false
      → Right r
      → Right (entry_checked stored shifted m lim r)
  checked-warned stored shifted m lim r used right =
      checked-case Right stored shifted m lim r (λ e. right-refused _) (λ e. right-refused _) (λ e. right-refused _)
      (λ l k j f z. absurd (never_both used z)) (λ l k j f. right)

verdict-warned :
    (number : ℕ) (x : Answer) (n : ℕ) (fits : List Fit) (shifted anchors : List ℕ) (o : Options)
    → Right number o (warning_noted number (integrity_warning x) empty) (verdict_by number x n fits shifted anchors o)
verdict-warned number x n fits shifted anchors o =
    let ws : Warnings = warning_noted number (integrity_warning x) empty in
    verdict-case (Right number o ws) number x n fits shifted anchors o (λ r k e. right-refused number o ws _)
    (λ e. settled-warned number o ws (refit_of fits shifted) (choice_of number shifted anchors n o))

decoding-warned :
    (number : ℕ) (stored : List ℕ) (fits : List Fit) (shifted anchors : List ℕ) (o : Options) (m : ℕ)
    → is_unallocated stored ≡ false
    → Right number o (warning_noted number (integrity_warning (integrity_of number stored)) empty) (decoding_of number stored fits shifted anchors o m)
unfolding decoding_of verdict_of
decoding-warned number stored fits shifted anchors o m used =
    checked-warned number o (warning_noted number (integrity_warning (integrity_of number stored)) empty) stored shifted m o.search_limit
    (verdict_by number (integrity_of number stored) (row_count_of stored) fits shifted anchors o) used
    (verdict-warned number (integrity_of number stored) (row_count_of stored) fits shifted anchors o)

supplied-warned :
    (number bv : ℕ) (stored : List ℕ) (fits : List Fit) (shifted : List ℕ) (o : Options) (m : ℕ)
    → is_unallocated stored ≡ false
    → Right number o empty (supplied_decoding_of number bv stored fits shifted o m)
unfolding supplied_decoding_of
supplied-warned number bv stored fits shifted o m used =
    let c : Result Choice Refused = supplied_of number bv shifted (row_count_of stored) o in
    checked-warned number o empty stored shifted m o.search_limit (settled_of number (keystream o) (refit_of fits shifted) c empty) used
    (settled-warned number o empty (refit_of fits shifted) c)

every-place :
    (number : ℕ) (fits : List Fit) (c : Choice) (ws : Warnings)
    → ws.len ≤ 1
    → (warnings_after number true fits c ws).len ≡ ws.len + flag (warns c) + in_doubt fits 8
unfolding warnings_after
every-place number fits c ws k =
    let n : (warning_noted number c.warned ws).len ≡ ws.len + flag (warns c) = noted-number number c.warned ws (omega arith) in
    sectors-number number fits (warning_noted number c.warned ws) 8 (omega (arith, flag-le (warns c))) ∙ ap (λ (m : ℕ). m + in_doubt fits 8) n

pub warned : Warned
unfolding Right
warned = record { decoding = decoding-warned; supplied = supplied-warned; placed = every-place }
