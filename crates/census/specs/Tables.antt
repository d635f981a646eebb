-- Private: no part of the rules. What the code keeps in tables on its way to a tally. Assumes nothing.
use Rattle.std.specs.Prelude.{ℕ, ◌+◌, ◌%◌, ◌<◌, ◌≤◌, ◌≡◌, List, length, take, drop, slice_set}
use Rattle.lists.specs.Bytes.{byte_at}
use Rattle.lists.specs.Counts.{count, sum, Tallies}
use Rattle.lists.specs.Pieces.{each, among}
use Rattle.sector.specs.declared.fits.Fit.{Fit}
use Rattle.census.specs.declared.quarters.Quarters.{Quarters}
use Rattle.census.specs.Told.{told_exact, first_byte, exact_count, other_count}

-- the votes of the first n sectors
abbrev pub ballots_to : List Fit → List ℕ → ℕ → List ℕ
ballots_to fits shifted n = among (told_exact fits) (first_byte shifted) n

-- counts and votes of the exact ones among the first n sectors, and how many there are
pub record Noted (fits : List Fit) (shifted : List ℕ) (n : ℕ) (counts votes : List ℕ) (total : ℕ) : Type 0 where
  pub counts-long : length counts ≡ 256
  pub counted : (v : ℕ) → v < 256 → byte_at counts v ≡ sum (exact_count fits shifted v) n
  pub votes-long : length votes ≡ 256
  pub voted : Tallies 256 votes (ballots_to fits shifted n)
  pub number : total ≡ length (ballots_to fits shifted n)

-- a table of numbers of at most m
pub record AtMost (m : ℕ) (table : List ℕ) : Type 0 where
  pub long : length table ≡ 256
  pub small : (v : ℕ) → v < 256 → byte_at table v ≤ m

-- the count of a value that four tables hold together
abbrev pub held : Quarters → ℕ → ℕ
held t v = byte_at t.a v + byte_at t.b v + (byte_at t.c v + byte_at t.d v)

-- a table with one more of x
abbrev pub with_one : List ℕ → ℕ → List ℕ
with_one table x = slice_set table x ((byte_at table x + 1) % 65536)

-- n bytes from `start` on are counted in a table that held something before
pub record Added (bytes : List ℕ) (start n : ℕ) (before after : List ℕ) : Type 0 where
  pub long : length after ≡ 256
  pub at : (v : ℕ) → v < 256 → byte_at after v % 65536 ≡ (byte_at before v + count v (take n (drop start bytes))) % 65536

-- a table with the counts of the sectors that are not exact
unfoldable pub with_others : List Fit → List ℕ → List ℕ → List ℕ
with_others fits shifted table = each (λ v. byte_at table v + sum (other_count fits shifted v) 8) 256
