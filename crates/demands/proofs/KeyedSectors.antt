-- A sector of two bytes or more that was written with one value under some step: under the step that the scan finds its shifted bytes are that value. Assumes nothing.
use Prim.Native.Nat.{ℕ, ◌+◌, ◌*◌, ◌%◌, ◌≤◌, ◌<◌}
use mathlib.Core.Path.{◌≡◌, sym, ap, ◌∙◌}
use mathlib.Core.List.{List}
use native.Mathlib.Nat.{zero-mul}
use native.Mathlib.Omega.{arith}
use lib.ListN.{length, get_or-replicate}
use Rattle.lists.specs.Bytes.{less, byte_at}
use Rattle.sector.specs.Fit.{sector_of}
use Rattle.sector.proofs.Bytes.{less-of}
use Rattle.quick.specs.Line.{OnLine}
use Rattle.quick.proofs.Exact.{line-unbroken}
use Rattle.quick.proofs.Fits.{unbroken-sector}

-- the first byte has the value and the offset, and the next ones go on in the step
first_made : (b x p : ℕ) → b ≡ (x + p) % 256 → p ≡ 0 → b ≡ x % 256
first_made b x p e z = omega arith

next-made : (b x p : ℕ) → b ≡ x % 256 → (x + p) % 256 ≡ (b + p) % 256
next-made b x p e = omega arith

module _
    (o bv k : ℕ)
    (l : List ℕ)
    (hb : bv < 256)
    (hk : k < 256)
    (two : 2 ≤ length l)
    (made : (i : ℕ) → i < length l → byte_at l i ≡ (bv + o + i * k) % 256)
  where
    first : byte_at l 0 ≡ (bv + o) % 256
    first = first_made (byte_at l 0) (bv + o) (0 * k) (made 0 (omega arith)) (zero-mul k)

    on_line : OnLine (byte_at l 0) k l (length l)
    on_line = record { within = omega arith; at = λ i h. made i h ∙ next-made (byte_at l 0) (bv + o) (i * k) first }

    pub sector-keyed : (i : ℕ) → i < length l → byte_at (sector_of o l) i ≡ bv
    sector-keyed i h =
        ap (λ (bytes : List ℕ). byte_at bytes i) (unbroken-sector o l (line-unbroken k l hk two on_line) two)
        ∙ get_or-replicate (length l) i (less (byte_at l 0) o) 0 h
        ∙ sym (less-of (byte_at l 0) o bv hb (sym first))
