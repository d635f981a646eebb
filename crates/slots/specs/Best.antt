-- What the scan's directory is, of all starts: document 01, "Best: most live, then most slots, then earliest start". Its proof is in proofs, under
-- the same name. Assumes nothing.
use Rattle.std.specs.Prelude.{Some, None, ◌≡◌, ℕ, ◌<◌, ◌≤◌, ◌⊎◌, List}
use Rattle.slots.specs.Slots.{scan_from, scanned_directory}
use Rattle.slots.specs.declared.scans.Scan.{Scan}

-- c has more than b: more live slots, or as many and more slots
abbrev pub More : Scan → Scan → Type 0
More b c = (b.live < c.live) ⊎ ((b.live ≡ c.live) × (b.slots < c.slots))

abbrev pub Not-more : Scan → Scan → Type 0
Not-more b c = (c.live < b.live) ⊎ ((b.live ≡ c.live) × (c.slots ≤ b.slots))

-- d is the scan from one of the starts below n; no start has more, and every earlier one has less
pub record Best (lim : ℕ) (plain : List ℕ) (n : ℕ) (d : Scan) : Type 0 where
  pub from : ℕ
  pub below : from < n
  pub is-scan : d ≡ scan_from lim plain from
  pub none-better : (s : ℕ) → s < n → Not-more d (scan_from lim plain s)
  pub earlier-worse : (s : ℕ) → s < from → More (scan_from lim plain s) d

-- ---- the theorem

-- "fewer than 4 live gives nothing"
pub record ScanFinds : Type 0 where
  pub best : (lim : ℕ) (plain : List ℕ) (d : Scan) → scanned_directory lim plain ≡ Some d → Best lim plain lim d × (4 ≤ d.live)
  pub nothing : (lim : ℕ) (plain : List ℕ) → scanned_directory lim plain ≡ None → (s : ℕ) → s < lim → (scan_from lim plain s).live < 4
