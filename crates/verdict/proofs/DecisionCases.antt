-- The cases of a decision, one law to a case, its premises in the order of the tests. Assumes nothing.
use Prim.Native.Nat.{ℕ, ◌≤◌, ◌<◌}
use mathlib.Core.Path.{◌≡◌, refl, sym, ◌∙◌}
use mathlib.Core.Bool.{Bool, true, false, not}
use mathlib.Core.List.{List}
use borrow.Author.Tests.{lt-ltb, le-ltb}
use lib.ListN.{length}
use Rattle.std.specs.Prelude.{Some, None, Result, Ok, Err, position}
use Rattle.lists.specs.Cases.{pick}
use Rattle.lists.proofs.Picks.{never_both}
use Rattle.answers.specs.Answers.{Answer, is_accepted}
use Rattle.answers.specs.Settings.{keystream, integrity}
use Rattle.answers.specs.Tables.{empty}
use Rattle.answers.specs.Warns.{Warnings}
use Rattle.answers.specs.declared.kinds.Refusal.{Refusal}
use Rattle.answers.specs.declared.kinds.Refusal.TheVariants.{LowConfidenceKeystream}
use Rattle.answers.specs.declared.settings.Options.{Options}
use Rattle.sector.specs.Fit.{confident_of}
use Rattle.sector.specs.declared.fits.Fit.{Fit}
use Rattle.choice.specs.declared.Choice.{Choice}
use Rattle.choice.specs.declared.Refused.{Refused}
use Rattle.choice.specs.Rules.{refusal, asked_answer, unless_refused, choice_of}
use Rattle.choice.specs.Supplied.{supplied_of}
use Rattle.choice.proofs.ChoiceCases.{asked-long}
use Rattle.verdict.specs.declared.Decoding.{Decoding}
use Rattle.verdict.specs.Sectors.{entry, refit_of, first_weak, sector_warnings}
use Rattle.verdict.specs.Verdict.{warning_noted, sectors_decide, settled_of, integrity_refuses, integrity_warning, integrity_left, verdict_by}
use Rattle.verdict.proofs.WeakSectors.{weak-here, weak-none}

-- ---- the sectors

module _ (number : ℕ) (lenient : Bool) (fits : List Fit) (c : Choice) (ws : Warnings) where
  pub sectors-lenient :
      lenient ≡ true → sectors_decide number lenient fits c ws ≡ Ok (record { choice = c; fits = fits; warnings = sector_warnings number fits ws 8 })
  unfolding sectors_decide
  sectors-lenient l = rw l

  module _ (l : lenient ≡ false) (s : ℕ) (e : s ≡ first_weak fits) where
    pub sectors-weak :
        s < 8
        → sectors_decide number lenient fits c ws ≡ Err (refusal (LowConfidenceKeystream number s (entry fits s).peak (entry fits s).runner_up))
    unfolding sectors_decide
    sectors-weak k = rw (l, ← e, lt-ltb s 8 k)

    pub sectors-sure : 8 ≤ s → sectors_decide number lenient fits c ws ≡ Ok (record { choice = c; fits = fits; warnings = ws })
    unfolding sectors_decide
    sectors-sure k = rw (l, ← e, le-ltb s 8 k)

  -- by what the search for a sector in doubt gave
  module _ (l : lenient ≡ false) (long : length fits ≡ 8) where
    pub sectors-some :
        (s : ℕ) (r : Result Decoding Refused)
        → position (λ f. not (confident_of f)) fits ≡ Some s
        → r ≡ Err (refusal (LowConfidenceKeystream number s (entry fits s).peak (entry fits s).runner_up))
        → r ≡ sectors_decide number lenient fits c ws
    sectors-some s r e f =
        let w = weak-here fits long s e in
        f ∙ sym (sectors-weak l s w.0 w.1)

    pub sectors-none :
        position (λ f. not (confident_of f)) fits ≡ None → Ok (record { choice = c; fits = fits; warnings = ws }) ≡ sectors_decide number lenient fits c ws
    sectors-none e = sym (sectors-sure l _ refl (weak-none fits long e))

-- ---- after the choice

module _ (number : ℕ) (lenient : Bool) (fits : List Fit) (r : Result Choice Refused) (ws : Warnings) where
  pub settled-refused : (e : Refused) → Err e ≡ r → settled_of number lenient fits r ws ≡ Err e
  unfolding settled_of
  settled-refused e h = rw (← h)

  pub settled-as : (c : Choice) → Ok c ≡ r → settled_of number lenient fits r ws ≡ settled_of number lenient fits (Ok c) ws
  settled-as c h = rw (← h)

  pub settled-taken : (c : Choice) → Ok c ≡ r → settled_of number lenient fits r ws ≡ sectors_decide number lenient fits c (warning_noted number c.warned ws)
  unfolding settled_of
  settled-taken c h = rw (← h)

  pub settled-lenient :
      (c : Choice)
      → Ok c ≡ r
      → lenient ≡ true
      → settled_of number lenient fits r ws
      ≡ Ok (record { choice = c; fits = fits; warnings = sector_warnings number fits (warning_noted number c.warned ws) 8 })
  settled-lenient c h l = settled-taken c h ∙ sectors-lenient number lenient fits c (warning_noted number c.warned ws) l

-- what was asked refuses, or else there are 4,080 bytes
pub unless-ok :
    {A : Type 0} (n lim : ℕ) (r : Result A Refused) (x : A) → Ok x ≡ unless_refused (asked_answer n lim) r → n ≡ 4080
unless-ok n lim r x = go (asked_answer n lim) refl
  where
    go : (a : Answer) → asked_answer n lim ≡ a → Ok x ≡ unless_refused a r → n ≡ 4080
    go None e h = asked-long n lim (sym e)
    go (Some y) e h = absurd cc

-- a choice that is taken has 4,080 shifted bytes before it
pub choice-sized :
    (number : ℕ) (xs anchors : List ℕ) (n : ℕ) (o : Options) (c : Choice) → Ok c ≡ choice_of number xs anchors n o → length xs ≡ 4080
unfolding choice_of
choice-sized number xs anchors n o c e = unless-ok (length xs) o.search_limit _ c e

pub supplied-sized :
    (number bv : ℕ) (xs : List ℕ) (n : ℕ) (o : Options) (c : Choice) → Ok c ≡ supplied_of number bv xs n o → length xs ≡ 4080
unfolding supplied_of
supplied-sized number bv xs n o c e = unless-ok (length xs) o.search_limit _ c e

-- ---- integrity

module _ (number : ℕ) (x : Answer) (n : ℕ) (fits : List Fit) (xs anchors : List ℕ) (o : Options) where
  pub verdict-refused :
      (r : Refusal) → Some r ≡ integrity_left x o → verdict_by number x n fits xs anchors o ≡ Err (refusal r)
  unfolding verdict_by
  verdict-refused r h = rw (← h)

  pub verdict-settled :
      integrity_refuses x o ≡ false
      → verdict_by number x n fits xs anchors o
      ≡ settled_of number (keystream o) (refit_of fits xs) (choice_of number xs anchors n o) (warning_noted number (integrity_warning x) empty)
  unfolding verdict_by
  verdict-settled h = rw h

  module _ (h : None ≡ integrity_left x o) where
    pub verdict-unchosen : (e : Refused) → Err e ≡ choice_of number xs anchors n o → verdict_by number x n fits xs anchors o ≡ Err e
    unfolding verdict_by settled_of
    verdict-unchosen e f = rw (← h, ← f)

    pub verdict-chosen :
        (c : Choice)
        → Ok c ≡ choice_of number xs anchors n o
        → verdict_by number x n fits xs anchors o
        ≡ settled_of number (keystream o) (refit_of fits xs) (Ok c) (warning_noted number (integrity_warning x) empty)
    unfolding verdict_by
    verdict-chosen c f = rw (← h, ← f)

-- what integrity refuses was not accepted
pub refuses-refused : (x : Answer) (o : Options) → integrity_refuses x o ≡ true → is_accepted x ≡ false
refuses-refused x o = go (is_accepted x)
  where
    go : (b : Bool) → pick b false (not (integrity o)) ≡ true → b ≡ false
    go true h = absurd (never_both refl h)
    go false h = refl

-- what `by_sectors`, `decide` and `decide_supplied` go by
pub ruleset judging = (sectors-lenient, sectors-some, sectors-none)

pub ruleset deciding = (verdict-refused, verdict-unchosen, verdict-chosen, choice-sized)

pub ruleset supplying = (settled-refused, settled-as, supplied-sized)
