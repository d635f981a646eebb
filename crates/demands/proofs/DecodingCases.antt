-- What holds of each outcome of a decoding holds of the decoding: its checks, its verdict, and the doubt of its sectors. Assumes nothing.
use Prim.Native.Nat.{ℕ}
use mathlib.Core.Path.{◌≡◌, refl, sym, ap, ◌∙◌, subst}
use mathlib.Core.Bool.{Bool, true, false}
use mathlib.Core.List.{List}
use borrow.Author.Tests.{eqb-true, eq-eqb}
use lib.Dec.{eqb, ltb}
use lib.ListN.{length}
use Rattle.std.specs.Prelude.{Some, None, Result, Ok, Err}
use Rattle.lists.specs.Cases.{pick}
use Rattle.lists.proofs.Picks.{pick-case, pick_true, pick-false, never_both}
use Rattle.answers.specs.Answers.{Answer}
use Rattle.answers.specs.Tables.{empty}
use Rattle.answers.specs.Warns.{Warnings}
use Rattle.answers.specs.declared.kinds.Refusal.{Refusal}
use Rattle.answers.specs.declared.kinds.Refusal.TheVariants.{WrongPageLength, WrongBufferLength, LowConfidenceKeystream, LimitOutOfRange}
use Rattle.answers.specs.declared.settings.Options.{Options}
use Rattle.sector.specs.declared.fits.Fit.{Fit}
use Rattle.page.specs.Integrity.{is_unallocated}
use Rattle.choice.specs.declared.Choice.{Choice}
use Rattle.choice.specs.declared.Refused.{Refused}
use Rattle.answers.specs.Settings.{keystream, limit_fits}
use Rattle.choice.specs.Rules.{refusal, unless_refused, choice_of}
use Rattle.verdict.specs.declared.Decoding.{Decoding}
use Rattle.verdict.specs.Sectors.{entry, refit_of, first_weak, sector_warnings}
use Rattle.verdict.specs.Verdict.{unallocated_of, warning_noted, sectors_decide, settled_of, integrity_refuses, integrity_warning, verdict_by}
use Rattle.decode.specs.Decode.{entry_answer, entry_checked}
use Rattle.demands.specs.Told.{first_wrong}

-- the refusal of the first sector in doubt
abbrev pub doubt_of : ℕ → List Fit → Refusal
doubt_of number fits =
    LowConfidenceKeystream number (first_weak fits) (entry fits (first_weak fits)).peak (entry fits (first_weak fits)).runner_up

module _ (P : Result Decoding Refused → Type 0) where
  -- a choice that refuses, a sector in doubt, or the choice and the fits with some warnings
  module _ (number : ℕ) (fits : List Fit) (lenient : Bool) where
    sectors-case :
        (c : Choice) (ws : Warnings)
        → P (Err (refusal (doubt_of number fits)))
        → ((all : Warnings) → P (Ok (record { choice = c; fits = fits; warnings = all })))
        → P (sectors_decide number lenient fits c ws)
    unfolding sectors_decide
    sectors-case c ws doubt taken =
        let weak : Result Decoding Refused = Err (refusal (doubt_of number fits)) in
        let plain : Result Decoding Refused = Ok (record { choice = c; fits = fits; warnings = ws }) in
        let warned : Result Decoding Refused = Ok (record { choice = c; fits = fits; warnings = sector_warnings number fits ws 8 }) in
        pick-case P lenient warned (pick (ltb (first_weak fits) 8) weak plain) (λ l. taken (sector_warnings number fits ws 8))
        (λ l. pick-case P (ltb (first_weak fits) 8) weak plain (λ w. doubt) (λ w. taken ws))

    pub settled_case :
        (r : Result Choice Refused) (ws : Warnings)
        → ((e : Refused) → r ≡ Err e → P (Err e))
        → P (Err (refusal (doubt_of number fits)))
        → ((c : Choice) → r ≡ Ok c → (all : Warnings) → P (Ok (record { choice = c; fits = fits; warnings = all })))
        → P (settled_of number lenient fits r ws)
    unfolding settled_of
    settled_case (Ok c) ws refused doubt taken = sectors-case c (warning_noted number c.warned ws) doubt (taken c refl)
    settled_case (Err e) ws refused doubt taken = refused e refl

  -- a page whose integrity does not hold, or the choice as it is settled
  module _ (number : ℕ) (x : Answer) (n : ℕ) (fits : List Fit) (shifted anchors : List ℕ) (o : Options) where
    abbrev settled : Result Decoding Refused
    settled =
        settled_of number (keystream o) (refit_of fits shifted) (choice_of number shifted anchors n o) (warning_noted number (integrity_warning x) empty)

    pub verdict-case :
        ((r : Refusal) → x ≡ Some r → integrity_refuses x o ≡ true → P (Err (refusal r)))
        → (integrity_refuses x o ≡ false → P settled)
        → P (verdict_by number x n fits shifted anchors o)
    unfolding verdict_by
    verdict-case refused taken =
        pick-case (λ (y : Answer). P (unless_refused y settled)) (integrity_refuses x o) x None (λ e. go x refl e) taken
      where
        go : (y : Answer) → x ≡ y → integrity_refuses y o ≡ true → P (unless_refused y settled)
        go None e h = absurd (never_both refl h)
        go (Some r) e h = refused r e (ap (λ (z : Answer). integrity_refuses z o) e ∙ h)

  -- a wrong length is the page's, or the first of the buffers' that is wrong; then comes the limit
  module _ (n m k lim : ℕ) (right : Result Decoding Refused) where
    wrong-entry :
        ((n ≡ 4096 → ⊥) → P (Err (refusal (WrongPageLength n))))
        → ((m ≡ 4096 → k ≡ 4080 → ⊥) → P (Err (refusal (WrongBufferLength (first_wrong m k)))))
        → (limit_fits lim ≡ false → P (Err (refusal (LimitOutOfRange lim))))
        → (n ≡ 4096 → m ≡ 4096 → k ≡ 4080 → limit_fits lim ≡ true → P right)
        → P (unless_refused (entry_answer n m k lim) right)
    unfolding entry_answer
    wrong-entry page buffer limit within =
        let Q : Answer → Type 0 = λ x. P (unless_refused x right) in
        let wrong : ℕ → Type 0 = λ j. P (Err (refusal (WrongBufferLength j))) in
        let limited : Answer = pick (limit_fits lim) None (Some (LimitOutOfRange lim)) in
        let shifted : Answer = pick (eqb k 4080) limited (Some (WrongBufferLength k)) in
        pick-case Q (eqb n 4096) (pick (eqb m 4096) shifted (Some (WrongBufferLength m))) (Some (WrongPageLength n))
        (λ a.
        pick-case Q (eqb m 4096) shifted (Some (WrongBufferLength m))
        (λ b.
        pick-case Q (eqb k 4080) limited (Some (WrongBufferLength k))
        (λ g.
        pick-case Q (limit_fits lim) None (Some (LimitOutOfRange lim))
        (λ f. within (eqb-true n 4096 a) (eqb-true m 4096 b) (eqb-true k 4080 g) f) (λ f. limit f))
        (λ g. subst wrong (sym (pick_true k m b)) (buffer (λ x y. never_both g (eq-eqb k 4080 y)))))
        (λ b. subst wrong (sym (pick-false k m b)) (buffer (λ x y. never_both b (eq-eqb m 4096 x)))))
        (λ a. page (λ x. never_both a (eq-eqb n 4096 x)))

  -- a wrong length, a limit out of range, a page of zeros, or what the verdict is
  pub checked-case :
      (stored shifted : List ℕ) (m lim : ℕ) (r : Result Decoding Refused)
      → ((length stored ≡ 4096 → ⊥) → P (Err (refusal (WrongPageLength (length stored)))))
      → ((m ≡ 4096 → length shifted ≡ 4080 → ⊥) → P (Err (refusal (WrongBufferLength (first_wrong m (length shifted))))))
      → (limit_fits lim ≡ false → P (Err (refusal (LimitOutOfRange lim))))
      → (length stored ≡ 4096
      → m ≡ 4096
      → length shifted ≡ 4080
      → limit_fits lim ≡ true
      → is_unallocated stored ≡ true
      → P (Ok unallocated_of))
      → (length stored ≡ 4096 → m ≡ 4096 → length shifted ≡ 4080 → limit_fits lim ≡ true → P r)
      → P (entry_checked stored shifted m lim r)
  unfolding entry_checked
  checked-case stored shifted m lim r page buffer limit zeros verdict =
      wrong-entry (length stored) m (length shifted) lim (pick (is_unallocated stored) (Ok unallocated_of) r) page buffer limit
      (λ l k j f. pick-case P (is_unallocated stored) (Ok unallocated_of) r (λ z. zeros l k j f z) (λ z. verdict l k j f))
