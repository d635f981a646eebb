-- Document 01, "Offsets, steps, fits", and document 02, #106: the fit of a sector of any length. Assumes nothing.
use Rattle.std.specs.Prelude.{ℕ, suc, ◌+◌, Bool, true, false, List, [], ◌∷◌, ◌==◌, nat_eq, nat_le, slice_index_or}
use Rattle.lists.specs.Cases.{pick}
use Rattle.lists.specs.Counts.{count, greatest, how_many, least, all_same}
use Rattle.sector.specs.Byte.{shifted_of}
use Rattle.sector.specs.declared.fits.Fit.{Fit}

-- the shifted bytes of a part of a sector, of which the first is byte i of the sector
unfoldable pub shift_from : ℕ → ℕ → ℕ → List ℕ → List ℕ
shift_from offset step i [] = []
shift_from offset step i (b ∷ bytes) = shifted_of b offset i step ∷ shift_from offset step (suc i) bytes

abbrev pub shifted_list : ℕ → ℕ → List ℕ → List ℕ
shifted_list offset step bytes = shift_from offset step 0 bytes

-- the modal count: the largest number of equal bytes
unfoldable pub modal_of : List ℕ → ℕ
modal_of bytes = greatest (λ v. count v bytes) 256

-- and that of the shifted bytes of a sector, for a step
unfoldable pub modal_at : ℕ → List ℕ → ℕ → ℕ
modal_at offset bytes step = modal_of (shifted_list offset step bytes)

-- of f 0, .., f (n - 1): the smallest place of the greatest, and the greatest of all others, so that a tie counts
unfoldable pub top_place : (ℕ → ℕ) → ℕ → ℕ
top_place f n = least (λ k. nat_eq (f k) (greatest f n)) n

abbrev pub but_at : (ℕ → ℕ) → ℕ → ℕ → ℕ
but_at f place k = pick (k == place) 0 (f k)

unfoldable pub second : (ℕ → ℕ) → ℕ → ℕ
second f n = greatest (but_at f (top_place f n)) n

-- how many of f 0, .., f (n - 1) are the greatest
unfoldable pub ties : (ℕ → ℕ) → ℕ → ℕ
ties f n = how_many (λ k. nat_eq (f k) (greatest f n)) n

-- of the modal counts of the 256 steps: the greatest, the smallest step that has it, the second greatest, and how many steps have the greatest
abbrev pub peak_of : (ℕ → ℕ) → ℕ
peak_of f = greatest f 256

abbrev pub step_of : (ℕ → ℕ) → ℕ
step_of f = top_place f 256

abbrev pub runner_of : (ℕ → ℕ) → ℕ
runner_of f = second f 256

abbrev pub tied_of : (ℕ → ℕ) → ℕ
tied_of f = ties f 256

-- these four, and whether all agree
abbrev pub fit_from : (ℕ → ℕ) → Bool → Fit
fit_from f exact = record { step = step_of f; peak = peak_of f; runner_up = runner_of f; exact = exact; tied = tied_of f }

-- the fit of a sector; exact: all its shifted bytes are equal
unfoldable pub fit_of : ℕ → List ℕ → Fit
fit_of offset bytes =
    let f : ℕ → ℕ = modal_at offset bytes in
    fit_from f (all_same (shifted_list offset (step_of f) bytes))

-- the fit that a table of modal counts gives, of a sector of n bytes: exact where the peak is n
unfoldable pub table_fit : List ℕ → ℕ → Fit
table_fit counts n =
    let f : ℕ → ℕ = λ k. slice_index_or counts k 0 in
    fit_from f (peak_of f == n)

-- the shifted bytes of a sector, under the step of its fit
unfoldable pub sector_of : ℕ → List ℕ → List ℕ
sector_of offset bytes = shifted_list offset (fit_of offset bytes).step bytes

-- confident: exact, or a peak of at least 24 and of at least the runner-up + 12
abbrev pub confident_of : Fit → Bool
confident_of f = pick f.exact true (pick (nat_le 24 f.peak) (nat_le (f.runner_up + 12) f.peak) false)
