-- What the test of a search limit means. Assumes nothing.
use Prim.Native.Nat.{ℕ, ◌≤◌}
use mathlib.Core.Path.{◌≡◌}
use mathlib.Core.Bool.{true}
use lib.Dec.{leb}
use borrow.Author.Tests.{leb-true}
use Rattle.lists.proofs.Booleans.{and_left, and_right}
use Rattle.answers.specs.Settings.{limit_fits}

pub limit-within : (lim : ℕ) → limit_fits lim ≡ true → (8 ≤ lim) × (lim ≤ 2048)
unfolding limit_fits
limit-within lim h = (leb-true 8 lim (and_left (leb 8 lim) (leb lim 2048) h), leb-true lim 2048 (and_right (leb 8 lim) (leb lim 2048) h))
