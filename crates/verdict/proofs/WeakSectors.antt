-- Laws of a decoding's fits, and of the sectors whose step is in doubt. Assumes nothing.
use Prim.Native.Nat.{ℕ, ◌+◌, ◌-◌, ◌*◌, ◌≤◌, ◌<◌}
use mathlib.Core.Path.{◌≡◌, refl, sym, ◌∙◌}
use mathlib.Core.Bool.{Bool, true, false, not}
use mathlib.Core.List.{List}
use native.Mathlib.Numerals.{add-one}
use native.Mathlib.Omega.{arith}
use lib.ListN.{length, set, take, drop}
use Rattle.std.specs.Prelude.{Some, None, position}
use Rattle.std.specs.List.{position_or_len}
use Rattle.std.proofs.lemmas.Grind.{common_steps}
use Rattle.std.proofs.lemmas.List.Quantifiers.{position-Some}
use Rattle.std.proofs.lemmas.List.Sums.{position_or_len_is}
use Rattle.lists.specs.Counts.{least, all_same}
use Rattle.lists.proofs.Filled.{Filled, filled_none, filled_more, filled-all}
use Rattle.lists.proofs.Least.{least-le, least-before, least-here}
use Rattle.sector.specs.Scan.{blank_fit, blank_fits}
use Rattle.sector.specs.Fit.{confident_of}
use Rattle.sector.specs.declared.fits.Fit.{Fit}
use Rattle.summary.specs.Page.{sector_end}
use Rattle.votes.proofs.Ballots.{exact-here}
use Rattle.answers.specs.Warns.{Warnings, with_warning}
use Rattle.answers.specs.declared.notices.WarningKind.TheVariants as warning
use Rattle.verdict.specs.Sectors.{entry, refit_at, refit_of, first_weak, sector_warnings}

-- the search of a list finds the first sector that is not confident
module _ (fits : List Fit) (long : length fits ≡ 8) where
  weak-first : position_or_len (λ f. not (confident_of f)) fits ≡ first_weak fits
  unfolding first_weak
  weak-first =
      let p : ℕ → Bool = λ s. not (confident_of (entry fits s)) in
      position_or_len_is _ fits (least p 8) blank_fit (omega (arith, least-le p 8)) (least-before p 8) (λ h. least-here p 8 (omega arith))

  pub weak-here : (s : ℕ) → position (λ f. not (confident_of f)) fits ≡ Some s → (s ≡ first_weak fits) × (s < 8)
  weak-here s e =
      let h = position-Some _ fits s blank_fit e in
      let n : position_or_len (λ f. not (confident_of f)) fits ≡ s = grind (arith, common_steps) in
      (sym n ∙ weak-first, omega (arith, h.0))

  pub weak-none : position (λ f. not (confident_of f)) fits ≡ None → 8 ≤ first_weak fits
  weak-none e =
      let n : 8 ≤ position_or_len (λ f. not (confident_of f)) fits = grind (arith, common_steps) in
      omega (arith, weak-first)

-- the fits of the first s sectors, each with the exactness of its shifted bytes
module _ (fits : List Fit) (shifted : List ℕ) where
  pub refit-none : Filled (refit_at fits shifted) 8 0 blank_fits
  refit-none = filled_none _ _ _ refl

  pub refit-more :
      (table : List Fit) (s e : ℕ) (x : Bool)
      → Filled (refit_at fits shifted) 8 s table
      → s < 8
      → e ≡ sector_end s
      → x ≡ all_same (take (e - s * 512) (drop (s * 512) shifted))
      → Filled (refit_at fits shifted) 8 (s + 1)
      (set table s
      (record { step = (entry fits s).step; peak = (entry fits s).peak; runner_up = (entry fits s).runner_up; exact = x; tied = (entry fits s).tied }))
  refit-more table s e x i h he hx = filled_more _ _ _ s _ i h (rw (sym (exact-here shifted s e x he hx)))

  pub refit-all : (table : List Fit) (s : ℕ) → Filled (refit_at fits shifted) 8 s table → 8 ≤ s → table ≡ refit_of fits shifted
  unfolding refit_of
  refit-all table s i h = filled-all _ _ _ s i h

-- what the loop of `refit` begins and ends by
pub ruleset refitting = (refit-none, refit-all)

-- the warnings of the first n sectors
module _ (number : ℕ) (fits : List Fit) (ws : Warnings) where
  pub warned-none : ws ≡ sector_warnings number fits ws 0
  unfolding sector_warnings
  warned-none = refl

  pub warned-sure : (n : ℕ) → confident_of (entry fits n) ≡ true → sector_warnings number fits ws (n + 1) ≡ sector_warnings number fits ws n
  unfolding sector_warnings
  warned-sure n h = rw (add-one, h)

  pub warned-weak :
      (n : ℕ)
      → confident_of (entry fits n) ≡ false
      → sector_warnings number fits ws (n + 1)
      ≡ with_warning (sector_warnings number fits ws n) number (warning.LowConfidenceSector n (entry fits n).peak (entry fits n).runner_up)
  unfolding sector_warnings
  warned-weak n h = rw (add-one, h)

-- what the loop of `warn_sectors` goes by
pub ruleset weakness = (warned-none, warned-sure, warned-weak)
