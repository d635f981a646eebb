-- No part of the rules: the first look of the row-count test, which answers most pages of a wrong bv before the sweep; and that a test that would
-- pass is never passed over by it. Its proof is in proofs, under the same name. Assumes nothing.
use Rattle.std.specs.Prelude.{◌≡◌, ℕ, zero, suc, ◌+◌, ◌-◌, min, Bool, true, false, ◌&&◌, ◌||◌, List, length, ◌==◌, nat_le}
use Rattle.lists.specs.Bytes.{byte_at}
use Rattle.slots.specs.Slots.{slots_at, live_of, row_count_matches}

-- four live slots at a position, before the limit
unfoldable pub is_array : ℕ → List ℕ → ℕ → Bool
is_array lim plain at = nat_le 4 (live_of (slots_at lim plain at))

-- n and 0 at i, and four live slots 4 or 6 bytes on
unfoldable pub may_count_at : ℕ → List ℕ → ℕ → ℕ → Bool
may_count_at lim plain n i = (byte_at plain i == n && byte_at plain (i + 1) == 0) && (is_array lim plain (i + 4) || is_array lim plain (i + 6))

-- at one of the positions 0, .., k - 1
unfoldable pub may_count : ℕ → List ℕ → ℕ → ℕ → Bool
may_count lim plain n zero = false
may_count lim plain n (suc i) = may_count lim plain n i || may_count_at lim plain n i

-- ---- the theorem

-- of any limit and any bytes: where the test passes, so does the look
pub record NeverPassedOver : Type 0 where
  pub looked : (lim : ℕ) (plain : List ℕ) (n t : ℕ) → row_count_matches lim plain n t ≡ true → may_count lim plain n (min lim (length plain - 1)) ≡ true
