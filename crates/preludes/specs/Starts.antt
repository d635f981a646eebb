-- What the prelude search says of the places it looks at, each a field and a gap: document 01, "Prelude". Its proof is in proofs, under the
-- same name. Assumes nothing.
use Rattle.std.specs.Prelude.{ℕ, zero, suc, ◌+◌, ◌*◌, ◌≤◌, ◌<◌, ◌≡◌, List, [], ◌∷◌, ◌⊎◌, true, false, length}
use Rattle.lists.specs.Bytes.{pair_at}
use Rattle.slots.specs.Slots.{is_offset, live_of}
use Rattle.preludes.specs.Preludes.{data_end, declared_slots, run_of, whole, prelude_of}
use Rattle.preludes.specs.declared.search.Prelude.{Prelude}
use Rattle.preludes.specs.declared.search.Prelude.TheVariants.{Missing, Truncated, One, Several}

-- "a field 0 to 0x2FF whose pair equals the row count n, slots at field + 4, or at field + 6 if the pair at field + 4 is 0", 0x2FF being lim - 1
pub record Place (lim : ℕ) (plain : List ℕ) (n field gap : ℕ) : Type 0 where
  pub below : field < lim
  pub holds : pair_at plain field ≡ n
  pub gapped : (gap ≡ 4) ⊎ ((gap ≡ 6) × (pair_at plain (field + 4) ≡ 0))

-- "fields ascend, gap 4 before 6"
abbrev pub Before : ℕ → ℕ → ℕ → ℕ → Type 0
Before f g field gap = (f < field) ⊎ ((f ≡ field) × (g < gap))

-- "n slots, .. the first nonzero": of some places, one has all of its slots at `start`
pub record Fits (At : ℕ → ℕ → Type 0) (plain : List ℕ) (n start : ℕ) : Type 0 where
  pub field : ℕ
  pub gap : ℕ
  pub place : At field gap
  pub there : start ≡ field + gap
  pub fills : whole n (run_of (declared_slots plain n start)) ≡ true

-- the last live slot of a list, or what came before it
unfoldable pub last_live : ℕ → List ℕ → ℕ
last_live prev [] = prev
last_live prev (zero ∷ l) = last_live prev l
last_live prev (suc x ∷ l) = last_live (suc x) l

-- "offset of the pair that failed": it would reach past the data, or it is not zero, and no offset or not below the last live slot
abbrev pub Fails : List ℕ → List ℕ → ℕ → Type 0
Fails plain slots stop =
    (data_end plain ≤ stop + 1) ⊎ ((pair_at plain stop ≡ 0 → ⊥) × ((is_offset (pair_at plain stop) ≡ false) ⊎ (last_live 0xFF0 slots ≤ pair_at plain stop)))

-- "if incomplete, its first nonzero too, .. with at least 4 live": `found` slots at `start`, zeros counted, and then at `stop` no more
pub record Breaks (plain : List ℕ) (n start found stop : ℕ) : Type 0 where
  pub begins : is_offset (pair_at plain start) ≡ true
  pub counts : length (declared_slots plain n start) ≡ found
  pub few : found < n
  pub live : 4 ≤ live_of (declared_slots plain n start)
  pub stops : stop ≡ start + 2 * found
  pub fails : Fails plain (declared_slots plain n start) stop

-- "keep the longest .. as truncated, the earliest on a tie"
pub record Longest (At : ℕ → ℕ → Type 0) (plain : List ℕ) (n found stop : ℕ) : Type 0 where
  pub field : ℕ
  pub gap : ℕ
  pub place : At field gap
  pub breaks : Breaks plain n (field + gap) found stop
  pub none-longer : (f g : ℕ) → At f g → 4 ≤ live_of (declared_slots plain n (f + g)) → length (declared_slots plain n (f + g)) ≤ found
  pub earlier-shorter :
      (f g : ℕ) → At f g → Before f g field gap → 4 ≤ live_of (declared_slots plain n (f + g)) → length (declared_slots plain n (f + g)) < found

-- what an answer says of the places: no start fits, and none has four live slots; no start fits, and this is the longest that breaks off;
-- just the one start fits; two that differ do
unfoldable pub Tells : (ℕ → ℕ → Type 0) → List ℕ → ℕ → Prelude → Type 0
Tells At plain n Missing = ((s : ℕ) → Fits At plain n s → ⊥) × ((f g : ℕ) → At f g → live_of (declared_slots plain n (f + g)) < 4)
Tells At plain n (Truncated found stop) = ((s : ℕ) → Fits At plain n s → ⊥) × Longest At plain n found stop
Tells At plain n (One start) = Fits At plain n start × ((s : ℕ) → Fits At plain n s → s ≡ start)
Tells At plain n Several = (x : ℕ) × ((y : ℕ) × (Fits At plain n x × Fits At plain n y × (x ≡ y → ⊥)))

-- ---- the theorem

pub record PreludeTells : Type 0 where
  pub tells : (lim : ℕ) (plain : List ℕ) (n : ℕ) → Tells (Place lim plain n) plain n (prelude_of lim plain n)
