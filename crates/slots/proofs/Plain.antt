-- Laws of the bytes that a search reads. Assumes nothing.
use Rattle.std.proofs.Common.{◌≡◌, ℕ, ◌+◌, ◌*◌, ◌/◌, ◌<◌, ◌≤◌, List, length, get_or}
use Rattle.std.specs.Simd.{first_chunks}
use Rattle.lists.specs.Bytes.{less, byte_at, pair_at}
use Rattle.lists.proofs.Plain.{plain-length}
use Rattle.slots.specs.Plain.{text}
use Rattle.slots.specs.declared.values.Plain.{Plain}
use Rattle.slots.proofs.Slices.{between, slot-room, shifted-there}

module _ (p : Plain) where
  pub in-text : p.end ≤ length (text p)
  in-text = rw plain-length p.inside

  -- a slot of a part that ends where the search does
  pub slot-read :
      (from : ℕ) (h : from ≤ p.end) (slots : List (List ℕ))
      → slots ≡ first_chunks 2 (length (between p.end p.bytes.now from p.inside h slots) / 2) (between p.end p.bytes.now from p.inside h slots)
      → (i w : ℕ) (d : List ℕ)
      → i < length slots
      → w ≡ less (byte_at (get_or slots i d) 0) p.bv + 256 * less (byte_at (get_or slots i d) 1) p.bv
      → (from + 2 * i + 1 < p.end) × (w ≡ pair_at (text p) (from + 2 * i))
  slot-read from h slots e i w d l q =
      (slot-room p.end p.bytes.now from p.inside h slots e i l, shifted-there p.end p.bytes.now from p.inside h slots e i p.bv w d l q)
