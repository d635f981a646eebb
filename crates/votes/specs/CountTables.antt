-- Private: no part of the rules. What the code keeps in tables and keys on its way to an assessment, of which Votes has the promises.
-- Assumes nothing.
use Rattle.std.specs.Prelude.{ℕ, ◌+◌, ◌-◌, ◌*◌, ◌<◌, ◌≡◌, List, ltb, leb, length}
use Rattle.lists.specs.Bytes.{byte_at}
use Rattle.lists.specs.Counts.{how_many}
use Rattle.votes.specs.declared.commonest.Leading.{Leading}
use Rattle.votes.specs.declared.polls.Ballots.{Ballots}
use Rattle.votes.specs.Votes.{counts_of, ballots, beats, top_of}

-- the votes for each value, and their number
unfoldable pub ballots_of : List ℕ → Ballots
ballots_of shifted = record { votes = counts_of (ballots shifted); total = length (ballots shifted) }

-- the key of a value and its count
abbrev pub key_of : ℕ → ℕ → ℕ
key_of zeros v = zeros * 256 + (255 - v)

-- the top, and a key that a value reaches where fewer than four beat it
pub record Leads (counts : List ℕ) (r : Leading) : Type 0 where
  pub top : r.top ≡ top_of counts
  pub fourth : (v : ℕ) → v < 256 → ltb (how_many (λ w. beats counts w v) 256) 4 ≡ leb r.fourth (key_of (byte_at counts v) v)

-- what the search for candidates is given
pub record Assesses (shifted counts votes : List ℕ) (fourth : ℕ) : Type 0 where
  pub counted : counts ≡ counts_of shifted
  pub voted : votes ≡ counts_of (ballots shifted)
  pub ranked : (v : ℕ) → v < 256 → ltb (how_many (λ w. beats counts w v) 256) 4 ≡ leb fourth (key_of (byte_at counts v) v)
