-- The scan of a sector by its two checks, and where both pass. Assumes nothing.
use Rattle.std.proofs.Common.{◌≡◌, ℕ, ◌<◌, ◌≤◌, List, length, eq-eqb, ne_eqb, le-leb, ◌⊎◌, inl, inr}
use borrow.Author.Tests.{lt-leb}
use Rattle.sector.specs.Fit.{shifted_list, modal_at, fit_of, sector_of}
use Rattle.sector.specs.Scan.{blank_fit, if_scanned, sector_fit, sector_out, sector_modal, sector_shifted}

-- a check fails: there are too many bytes, or the buffer has another length
abbrev pub Refused : ℕ → ℕ → Type 0
Refused n m = (512 < n) ⊎ ((n ≤ 512) × (m ≡ n → ⊥))

scanned-not : {A : Type 0} (n m : ℕ) (x y : A) → Refused n m → y ≡ if_scanned n m x y
scanned-not n m x y (inl h) = rw (lt-leb n 512 h)
scanned-not n m x y (inr r) = rw (le-leb n 512 r.0, ne_eqb m n r.1)

module _ (o : ℕ) (l out : List ℕ) where
  module _ (refused : Refused (length l) (length out)) where
    pub fit-refused : blank_fit ≡ sector_fit o l (length out)
    unfolding sector_fit
    fit-refused = scanned-not (length l) (length out) _ _ refused

    pub out-refused : out ≡ sector_out o l out
    unfolding sector_out
    out-refused = scanned-not (length l) (length out) _ _ refused

  module _ (h : length l ≤ 512) (e : length out ≡ length l) where
    pub fit-scanned : sector_fit o l (length out) ≡ fit_of o l
    unfolding sector_fit
    fit-scanned = rw (le-leb (length l) 512 h, eq-eqb (length out) (length l) e)

    pub out-scanned : sector_out o l out ≡ sector_of o l
    unfolding sector_out
    out-scanned = rw (le-leb (length l) 512 h, eq-eqb (length out) (length l) e)

-- and for one step
module _ (o : ℕ) (l : List ℕ) (step : ℕ) (out : List ℕ) where
  module _ (refused : Refused (length l) (length out)) where
    pub modal-refused : 0 ≡ sector_modal o l step (length out)
    unfolding sector_modal
    modal-refused = scanned-not (length l) (length out) _ _ refused

    pub shifted-refused : out ≡ sector_shifted o l step out
    unfolding sector_shifted
    shifted-refused = scanned-not (length l) (length out) _ _ refused

  module _ (h : length l ≤ 512) (e : length out ≡ length l) where
    pub modal-scanned : sector_modal o l step (length out) ≡ modal_at o l step
    unfolding sector_modal
    modal-scanned = rw (le-leb (length l) 512 h, eq-eqb (length out) (length l) e)

    pub shifted-scanned : sector_shifted o l step out ≡ shifted_list o step l
    unfolding sector_shifted
    shifted-scanned = rw (le-leb (length l) 512 h, eq-eqb (length out) (length l) e)
