-- What the tables and lists that the rules go by hold, in the words of specs/Values: votes, dissent, and zero bytes. Assumes nothing.
use Prim.Native.Nat.{ℕ, zero, suc, ◌+◌, ◌<◌}
use mathlib.Core.Path.{◌≡◌, refl, sym, ◌∙◌}
use mathlib.Core.Bool.{Bool, true, false, ◌&&◌, not}
use mathlib.Core.List.{List}
use native.Mathlib.Omega.{arith}
use lib.Dec.{eqb}
use lib.ListN.{length}
use Rattle.lists.specs.Bytes.{byte_at, AllBytes}
use Rattle.lists.specs.Cases.{flag}
use Rattle.lists.specs.Counts.{count, how_many}
use Rattle.lists.proofs.AllBytes.{count-plain}
use Rattle.lists.proofs.Among.{among-length, count-among}
use Rattle.votes.specs.Votes.{counts_of, ballots}
use Rattle.votes.proofs.Meaning.{counts-at}
use Rattle.meanings.specs.Values.{is_exact, exact_value, exact_sectors, votes_for, dissent_from, zeros_with}

-- the numbers that pass a test, parted by a second one
module _ (p : ℕ → Bool) where
  parted : (b c : Bool) → flag b ≡ flag (b && c) + flag (b && not c)
  parted true true = refl
  parted true false = refl
  parted false c = refl

  many-parted : (q : ℕ → Bool) (n : ℕ) → how_many p n ≡ how_many (λ s. p s && q s) n + how_many (λ s. p s && not (q s)) n
  unfolding how_many
  many-parted q zero = refl
  many-parted q (suc n) = omega (arith, many-parted q n, parted (p n) (q n))

module _ (shifted : List ℕ) where
  pub ballots-number : length (ballots shifted) ≡ exact_sectors shifted
  unfolding ballots exact_sectors
  ballots-number = among-length (is_exact shifted) (exact_value shifted) 8

  module _ (v : ℕ) where
    pub ballots-count : count v (ballots shifted) ≡ votes_for shifted v
    unfolding ballots votes_for
    ballots-count = count-among (is_exact shifted) (exact_value shifted) v 8

    pub ballots-at : v < 256 → byte_at (counts_of (ballots shifted)) v ≡ votes_for shifted v
    ballots-at h = counts-at (ballots shifted) v h ∙ ballots-count

    -- an exact sector votes for v, or dissents
    pub exact-parted : exact_sectors shifted ≡ votes_for shifted v + dissent_from shifted v
    unfolding exact_sectors votes_for dissent_from
    exact-parted = many-parted (is_exact shifted) (λ s. eqb (exact_value shifted s) v) 8

    -- the data bytes that are zero when written with v are the shifted bytes that are v
    pub zeros-at : v < 256 → AllBytes shifted → byte_at (counts_of shifted) v ≡ zeros_with shifted v
    unfolding zeros_with
    zeros-at h b = counts-at shifted v h ∙ sym (count-plain v shifted h b)
