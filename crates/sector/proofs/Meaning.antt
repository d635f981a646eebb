-- What the fit of a sector is, in plain terms, and the worked examples of document 01. Assumes nothing.
use Rattle.std.proofs.Common.{◌≡◌, ℕ, ◌-◌, ◌^◌, ◌<◌, ◌≤◌, Bool, true, false, eqb, List, [], ◌∷◌, map, length, get_or, refl, arith}
use Rattle.lists.specs.Counts.{how_many, all_same}
use Rattle.lists.specs.Pieces.{each}
use Rattle.lists.proofs.Greatest.{greatest-above}
use Rattle.sector.specs.Byte.{offset_of, shifted_of}
use Rattle.sector.specs.Fit.{modal_at, ties, fit_of, sector_of, confident_of}
use Rattle.sector.specs.declared.fits.Fit.{Fit}
use Rattle.sector.specs.Sorted.{sorted_down}
use Rattle.sector.proofs.Sorted.{sorted-first, sorted-next, top_within, top-here, top-first}
use Rattle.sector.proofs.Ties.{ties-some, ties-le, ties-all, ties-second, second-ties}
use Rattle.sector.proofs.Exact.{modal-short}

-- THE FIT of a sector of any length: its step is a byte, and has the peak as its count; no step has a greater count, and every smaller step
-- a lesser one; of the 256 counts sorted, the peak is the first and the runner-up the second; it is exact where all its shifted bytes are equal
module _ (o : ℕ) (l : List ℕ) where
  pub fit-step : (fit_of o l).step < 256
  unfolding fit_of
  fit-step = top_within (modal_at o l) 256 (omega arith)

  pub fit-here : modal_at o l (fit_of o l).step ≡ (fit_of o l).peak
  unfolding fit_of
  fit-here = top-here (modal_at o l) 256 (omega arith)

  pub fit-most : (k : ℕ) → k < 256 → modal_at o l k ≤ (fit_of o l).peak
  unfolding fit_of
  fit-most k h = greatest-above (modal_at o l) 256 k h

  pub fit-first : (k : ℕ) → k < (fit_of o l).step → modal_at o l k < (fit_of o l).peak
  unfolding fit_of
  fit-first k h = top-first (modal_at o l) 256 (omega arith) k h

  pub fit-peak : get_or (sorted_down (each (modal_at o l) 256)) 0 0 ≡ (fit_of o l).peak
  unfolding fit_of
  fit-peak = sorted-first (modal_at o l) 256

  pub fit-runner : get_or (sorted_down (each (modal_at o l) 256)) 1 0 ≡ (fit_of o l).runner_up
  unfolding fit_of
  fit-runner = sorted-next (modal_at o l) 256 (omega arith)

  -- document 02, #106: how many of the 256 steps have the peak as their count. From 1 to 256, and above 1 exactly where the runner-up equals the peak; an
  -- empty sector and one of one byte have 256
  pub fit-tied : (fit_of o l).tied ≡ how_many (λ k. eqb (modal_at o l k) (fit_of o l).peak) 256
  unfolding fit_of ties
  fit-tied = refl

  pub tied-range : (1 ≤ (fit_of o l).tied) × ((fit_of o l).tied ≤ 256)
  unfolding fit_of
  tied-range = (ties-some (modal_at o l) 256 (omega arith), ties-le (modal_at o l) 256)

  pub tied-runner : 1 < (fit_of o l).tied → (fit_of o l).runner_up ≡ (fit_of o l).peak
  unfolding fit_of
  tied-runner h = ties-second (modal_at o l) 256 (omega arith) h

  pub runner-tied : (fit_of o l).runner_up ≡ (fit_of o l).peak → 1 < (fit_of o l).tied
  unfolding fit_of
  runner-tied e = second-ties (modal_at o l) 256 (omega arith) e

  pub short-tied : length l ≤ 1 → (fit_of o l).tied ≡ 256
  unfolding fit_of
  short-tied h = ties-all (modal_at o l) 256 (length l) (λ k q. modal-short o k l h)

  pub fit-exact : (fit_of o l).exact ≡ all_same (sector_of o l)
  unfolding fit_of sector_of
  fit-exact = refl

-- "Proved examples": page, sector, offset
unfoldable pub offsets : List (ℕ × ℕ × ℕ)
offsets = (0, 7, 7) ∷ (2, 0, 254) ∷ (15, 7, 250) ∷ (255, 0, 227) ∷ (256, 3, 3) ∷ (2 ^ 64 - 1, 7, 234) ∷ []

pub offsets-hold : map (λ (e : ℕ × ℕ × ℕ). offset_of e.0 e.1) offsets ≡ map (λ (e : ℕ × ℕ × ℕ). e.2) offsets
unfolding offsets
offsets-hold = refl

pub shifted-example : shifted_of 0 1 300 3 ≡ 123
unfolding shifted_of
shifted-example = refl

-- an inexact fit's peak, runner-up, and whether it is confident; the last is what no scan gives
unfoldable pub confidences : List (ℕ × ℕ × Bool)
confidences = (24, 12, true) ∷ (24, 13, false) ∷ (23, 0, false) ∷ (65535, 65535, false) ∷ []

abbrev inexact : ℕ → ℕ → Fit
inexact peak runner = record { step = 0; peak = peak; runner_up = runner; exact = false; tied = 1 }

pub confidences-hold : map (λ (e : ℕ × ℕ × Bool). confident_of (inexact e.0 e.1)) confidences ≡ map (λ (e : ℕ × ℕ × Bool). e.2) confidences
unfolding confidences
confidences-hold = refl
