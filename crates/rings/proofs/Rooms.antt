-- Laws of a buffer that is filled where it has just the room. Assumes nothing.
use Rattle.std.proofs.Common.{◌≡◌, ℕ, ◌<◌, List, length, sym, ◌∙◌}
use Rattle.lists.specs.Bytes.{byte_at}
use Rattle.lists.specs.Pieces.{each}
use Rattle.lists.proofs.Each.{each_all}
use Rattle.lists.proofs.Picks.{pick-eq, pick-ne}
use Rattle.rings.specs.Table.{if_room, tallied_at, tallied, doubled_at, doubled, folded_at, folded}

module _ (out : List ℕ) (f : ℕ → ℕ) where
  pub room-other : (length out ≡ 4096 → ⊥) → out ≡ if_room out f
  room-other ne = pick-ne (each f 4096) out (length out) 4096 ne

  room-is : length out ≡ 4096 → each f 4096 ≡ if_room out f
  room-is e = pick-eq (each f 4096) out (length out) 4096 e

  pub room-all : (t : List ℕ) → length out ≡ 4096 → length t ≡ 4096 → ((i : ℕ) → i < 4096 → byte_at t i ≡ f i) → t ≡ if_room out f
  room-all t e size at =
      each_all f 4096 t size at ∙ room-is e

-- the tables, where they have it
module _ (out : List ℕ) (e : length out ≡ 4096) where
  pub tallied-room : (l : List ℕ) (o k : ℕ) → tallied l o k out ≡ each (tallied_at l o k) 4096
  unfolding tallied
  tallied-room l o k = sym (room-is out (tallied_at l o k) e)

  pub doubled-room : (t : List ℕ) → doubled t out ≡ each (doubled_at t) 4096
  unfolding doubled
  doubled-room t = sym (room-is out (doubled_at t) e)

  pub folded-room : (t twice : List ℕ) (x : ℕ) → folded t twice x out ≡ each (folded_at t twice x) 4096
  unfolding folded
  folded-room t twice x = sym (room-is out (folded_at t twice x) e)
