-- What an accepted decoding holds: the choice, and the fits. Assumes nothing.
use Prim.Native.Nat.{ℕ}
use mathlib.Core.Path.{◌≡◌, sym, ap, ◌∙◌}
use mathlib.Core.Bool.{Bool, true, false}
use mathlib.Core.List.{List}
use lib.ListN.{length}
use Rattle.std.specs.Prelude.{Result, Ok, Err}
use Rattle.lists.proofs.Picks.{never_both}
use Rattle.answers.specs.Answers.{Answer}
use Rattle.answers.specs.Tables.{empty}
use Rattle.answers.specs.Warns.{Warnings}
use Rattle.answers.specs.declared.settings.Options.{Options}
use Rattle.sector.specs.declared.fits.Fit.{Fit}
use Rattle.page.specs.Trailer.{row_count_of}
use Rattle.page.specs.Integrity.{is_unallocated, integrity_of}
use Rattle.choice.specs.declared.Choice.{Choice}
use Rattle.choice.specs.declared.Refused.{Refused}
use Rattle.answers.specs.Settings.{keystream, limit_fits}
use Rattle.choice.specs.Rules.{choice_of}
use Rattle.choice.specs.Supplied.{supplied_of}
use Rattle.verdict.specs.declared.Decoding.{Decoding}
use Rattle.verdict.specs.Sectors.{refit_of}
use Rattle.verdict.specs.Verdict.{settled_of, verdict_by, verdict_of}
use Rattle.decode.specs.Decode.{entry_checked, decoding_of, supplied_decoding_of}
use Rattle.demands.proofs.DecodingCases.{settled_case, verdict-case, checked-case}
use Rattle.demands.proofs.Refusals.{ok-same}

-- an accepted decoding has the choice c, and these fits
pub record Shaped (c : Result Choice Refused) (fits : List Fit) (r : Result Decoding Refused) : Type 0 where
  pub accepted : (d : Decoding) → r ≡ Ok d → (c ≡ Ok d.choice) × (d.fits ≡ fits)

module _ (c : Result Choice Refused) (fits : List Fit) where
  shaped-refused : (e : Refused) → Shaped c fits (Err e)
  shaped-refused e = record { accepted = λ d h. cc }

  shaped-taken : (x : Choice) (ws : Warnings) → c ≡ Ok x → Shaped c fits (Ok (record { choice = x; fits = fits; warnings = ws }))
  shaped-taken x ws e =
      record {
        accepted =
            λ d h.
            let same = ok-same h in
            (e ∙ ap (λ (y : Decoding). Ok y.choice) same, ap (λ (y : Decoding). y.fits) (sym same));
      }

  pub shaped_settled : (number : ℕ) (lenient : Bool) (ws : Warnings) → Shaped c fits (settled_of number lenient fits c ws)
  shaped_settled number lenient ws =
      settled_case (Shaped c fits) number fits lenient c ws (λ e k. shaped-refused e) (shaped-refused _) (λ x k all. shaped-taken x all k)

module _ (number : ℕ) (x : Answer) (n : ℕ) (fits : List Fit) (shifted anchors : List ℕ) (o : Options) where
  pub shaped-verdict : Shaped (choice_of number shifted anchors n o) (refit_of fits shifted) (verdict_by number x n fits shifted anchors o)
  shaped-verdict =
      let c : Result Choice Refused = choice_of number shifted anchors n o in
      verdict-case (Shaped c (refit_of fits shifted)) number x n fits shifted anchors o (λ r k e. shaped-refused c (refit_of fits shifted) _)
      (λ e. shaped_settled c (refit_of fits shifted) number (keystream o) _)

-- the same of a whole decoding; an accepted one has the right lengths and a limit in its range
pub record Whole (stored shifted : List ℕ) (m lim : ℕ) (c : Result Choice Refused) (fits : List Fit) (r : Result Decoding Refused) : Type 0 where
  pub lengths : (d : Decoding) → r ≡ Ok d → (length stored ≡ 4096) × ((m ≡ 4096) × (length shifted ≡ 4080))
  pub limit : (d : Decoding) → r ≡ Ok d → limit_fits lim ≡ true
  pub accepted : is_unallocated stored ≡ false → (d : Decoding) → r ≡ Ok d → (c ≡ Ok d.choice) × (d.fits ≡ fits)

module _ (stored shifted : List ℕ) (m lim : ℕ) (c : Result Choice Refused) (fits : List Fit) where
  whole-refused : (e : Refused) → Whole stored shifted m lim c fits (Err e)
  whole-refused e = record { lengths = λ d h. cc; limit = λ d h. cc; accepted = λ z d h. cc }

  pub whole-checked : (r : Result Decoding Refused) → Shaped c fits r → Whole stored shifted m lim c fits (entry_checked stored shifted m lim r)
  whole-checked r s =
      checked-case (Whole stored shifted m lim c fits) stored shifted m lim r (λ e. whole-refused _) (λ e. whole-refused _) (λ f. whole-refused _)
      (λ l k j f z.
      record {
        lengths = λ d h. (l, (k, j));
        limit = λ d h. f;
        accepted = λ n d h. absurd (never_both n z);
      })
      (λ l k j f. record { lengths = λ d h. (l, (k, j)); limit = λ d h. f; accepted = λ z d h. s.accepted d h })

module _ (number : ℕ) (stored : List ℕ) (fits : List Fit) (shifted : List ℕ) (o : Options) (m : ℕ) where
  pub decoding-whole :
      (anchors : List ℕ)
      → Whole stored shifted m o.search_limit (choice_of number shifted anchors (row_count_of stored) o) (refit_of fits shifted)
      (decoding_of number stored fits shifted anchors o m)
  unfolding decoding_of verdict_of
  decoding-whole anchors =
      whole-checked stored shifted m o.search_limit (choice_of number shifted anchors (row_count_of stored) o) (refit_of fits shifted)
      (verdict_of number stored fits shifted anchors o)
      (shaped-verdict number (integrity_of number stored) (row_count_of stored) fits shifted anchors o)

  pub supplied-whole :
      (bv : ℕ)
      → Whole stored shifted m o.search_limit (supplied_of number bv shifted (row_count_of stored) o) (refit_of fits shifted)
      (supplied_decoding_of number bv stored fits shifted o m)
  unfolding supplied_decoding_of
  supplied-whole bv =
      let c : Result Choice Refused = supplied_of number bv shifted (row_count_of stored) o in
      whole-checked stored shifted m o.search_limit c (refit_of fits shifted) (settled_of number (keystream o) (refit_of fits shifted) c empty)
      (shaped_settled c (refit_of fits shifted) number (keystream o) empty)
