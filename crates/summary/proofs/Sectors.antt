-- Laws of the summary: its length, its bytes, and that its sectors are what the scan of each sector gave. Assumes nothing.
use Prim.Native.Nat.{ℕ, ◌+◌, ◌-◌, ◌*◌, ◌<◌}
use mathlib.Core.Path.{◌≡◌, ap, ap₂, ◌∙◌, sym}
use mathlib.Core.List.{List}
use native.Mathlib.Omega.{arith}
use lib.ListN.{length, get_or, take, drop, length-take, length-drop}
use lib.Seq.{get_or-take, get_or-drop}
use Rattle.lists.specs.Counts.{all_same}
use Rattle.sector.specs.Byte.{offset_of, shifted_of}
use Rattle.sector.specs.Fit.{fit_of, sector_of}
use Rattle.sector.specs.Scan.{sector_fit, sector_out}
use Rattle.sector.specs.declared.fits.Fit.{Fit}
use Rattle.sector.proofs.Meaning.{fit-exact}
use Rattle.sector.proofs.Scans.{fit-scanned, out-scanned}
use Rattle.sector.proofs.Shifts.{sector-length, sector-at}
use Rattle.summary.specs.Page.{sector_end, part, fit_at, bytes_at, bytes_of}
use Rattle.summary.proofs.Parts.{Sized, part_length, sized-length, joined_at, joined-part}

module _ (number : ℕ) (stored : List ℕ) (hp : length stored ≡ 4096) where
  pub bytes-length : (s : ℕ) → length (bytes_at number stored s) ≡ sector_end s - s * 512
  unfolding bytes_at
  bytes-length s = sector-length (offset_of number s) (part s stored) ∙ part_length stored s (omega arith)

  pub bytes-sized : Sized (bytes_at number stored)
  bytes-sized = record { at = λ s h. bytes-length s }

  pub summary-length : length (bytes_of number stored) ≡ 4080
  summary-length = sized-length (bytes_at number stored) 8 bytes-sized (omega arith)

  -- a byte of the summary, from the byte of the page and the step of its sector
  pub summary-at :
      (s i : ℕ)
      → s < 8
      → i < sector_end s - s * 512
      → get_or (bytes_of number stored) (s * 512 + i) 0 ≡ shifted_of (get_or stored (s * 512 + i) 0) (offset_of number s) i (fit_at number stored s).step
  unfolding bytes_at fit_at part
  summary-at s i h k =
      let n : ℕ = sector_end s - s * 512 in
      let l : List ℕ = take n (drop (s * 512) stored) in
      joined_at (bytes_at number stored) bytes-sized 8 s i h (omega arith) k
      ∙ sector-at (offset_of number s) l i (omega (arith, part_length stored s (omega arith)))
      ∙ ap (λ (b : ℕ). shifted_of b (offset_of number s) i (fit_of (offset_of number s) l).step) (get_or-take n (drop (s * 512) stored) i 0 k ∙ get_or-drop (s * 512) stored i 0)

  -- sector s of the summary is what the scan of sector s wrote, and it is exact where the fit says so
  pub summary-part : (s : ℕ) → s < 8 → part s (bytes_of number stored) ≡ bytes_at number stored s
  summary-part s h = joined-part (bytes_at number stored) bytes-sized s h

  pub summary-exact : (s : ℕ) → s < 8 → all_same (part s (bytes_of number stored)) ≡ (fit_at number stored s).exact
  unfolding bytes_at fit_at
  summary-exact s h = ap all_same (summary-part s h) ∙ sym (fit-exact (offset_of number s) (part s stored))

-- what the scan of a lent part gives
module _ (number : ℕ) (stored : List ℕ) (hp : length stored ≡ 4096) (s o e : ℕ) (ho : o ≡ offset_of number s) (he : e ≡ sector_end s) (out : List ℕ) (hs : s < 8) (hm : length out ≡ e - s * 512) where
  bytes : List ℕ
  bytes = take (e - s * 512) (drop (s * 512) stored)

  long : length bytes ≡ e - s * 512
  unfolding bytes
  long = simp (length-take, length-drop) (omega arith)

  same : bytes ≡ part s stored
  unfolding bytes part
  same = ap (λ (n : ℕ). take (n - s * 512) (drop (s * 512) stored)) he

  pub fit-scans : (r : Fit) → r ≡ sector_fit o (take (e - s * 512) (drop (s * 512) stored)) (length out) → r ≡ fit_at number stored s
  unfolding fit_at bytes
  fit-scans r q = q ∙ fit-scanned o bytes out (omega (arith, long)) (hm ∙ sym long) ∙ ap₂ fit_of ho same

  pub bytes-scan : (ys : List ℕ) → ys ≡ sector_out o (take (e - s * 512) (drop (s * 512) stored)) out → ys ≡ bytes_at number stored s
  unfolding bytes_at bytes
  bytes-scan ys q = q ∙ out-scanned o bytes out (omega (arith, long)) (hm ∙ sym long) ∙ ap₂ sector_of ho same
