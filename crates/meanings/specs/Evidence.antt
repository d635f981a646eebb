-- THE EVIDENCE OF AN ACCEPTED CHOICE: every piece that is listed holds of its bv, every piece that holds is listed, in document 01's order. Assumes nothing.
use Rattle.std.specs.Prelude.{ℕ, ◌-◌, ◌≤◌, ◌<◌, ◌≡◌, true, Option, Some, None, IsSomeAnd, Ok, List, length, get_or}
use Rattle.lists.specs.Bytes.{plain_of, AllBytes}
use Rattle.lists.specs.Counts.{is_in}
use Rattle.answers.specs.Trust.{Grounds, evidence_number}
use Rattle.answers.specs.declared.trust.Evidence.{Evidence}
use Rattle.answers.specs.declared.trust.Evidence.TheVariants as evidence
use Rattle.answers.specs.declared.settings.Options.{Options}
use Rattle.slots.specs.Slots.{row_count_matches}
use Rattle.choice.specs.declared.Choice.{Choice}
use Rattle.choice.specs.Rules.{choice_of}
use Rattle.meanings.specs.Values.{votes_for, dissent_from, zeros_with}
use Rattle.meanings.specs.Sources.{Other}

-- ---- a table of evidence

abbrev pub evidence_at : Grounds → ℕ → Option Evidence
evidence_at g i = get_or g.items i None

-- the number of what stands in a place, 0 where nothing does
abbrev pub number_in : Option Evidence → ℕ
number_in None = 0
number_in (Some e) = evidence_number e

pub record InTable (g : Grounds) (e : Evidence) : Type 0 where
  pub place : ℕ
  pub within : place < g.len
  pub is : evidence_at g place ≡ Some e

-- a table tells the evidence that holds and no other: each place has a piece, by rising numbers, so each piece once, and nothing stands behind them
pub record EvidenceTold (Holds : Evidence → Type 0) (g : Grounds) : Type 0 where
  pub only : (i : ℕ) → i < g.len → IsSomeAnd (evidence_at g i) Holds
  pub every : (e : Evidence) → Holds e → InTable g e
  pub order : (i j : ℕ) → i < j → j < g.len → number_in (evidence_at g i) < number_in (evidence_at g j)
  pub blank : (i : ℕ) → g.len ≤ i → evidence_at g i ≡ None
  pub room : length g.items ≡ 4

-- ---- what the evidence says of bv

-- another candidate than bv that leaves m data bytes zero
pub record BestOther (shifted : List ℕ) (bv m : ℕ) : Type 0 where
  pub value : ℕ
  pub other : Other shifted bv value
  pub zeros : zeros_with shifted value ≡ m

-- "lead over the best other candidate, never below 0": no other candidate leaves more than `best` data bytes zero, and one leaves so many unless it is 0
pub record LeadsBy (shifted : List ℕ) (bv lead : ℕ) : Type 0 where
  pub best : ℕ
  pub most : (v : ℕ) → Other shifted bv v → zeros_with shifted v ≤ best
  pub met : 0 < best → BestOther shifted bv best
  pub lead_is : lead ≡ zeros_with shifted bv - best

module _ (lim : ℕ) (shifted anchors : List ℕ) (n t bv : ℕ) where
  -- "row count; exact sectors (votes, dissent) if it has a vote; anchor; zero mass (count, lead)": when each holds
  unfoldable pub Supports : Evidence → Type 0
  Supports evidence.TrailerRowCount = (0 < n) × (row_count_matches lim (plain_of bv shifted) n t ≡ true)
  Supports (evidence.ExactSectors votes dissent) =
      (0 < votes_for shifted bv) × (votes ≡ votes_for shifted bv) × (dissent ≡ dissent_from shifted bv)
  Supports evidence.BlockAnchor = is_in bv anchors ≡ true
  Supports (evidence.ZeroMass zeros lead) = (zeros ≡ zeros_with shifted bv) × LeadsBy shifted bv lead
  Supports evidence.Unallocated = ⊥

-- ---- the theorem

pub record Evidenced : Type 0 where
  pub choice :
      (number : ℕ) (shifted anchors : List ℕ) (n : ℕ) (o : Options)
      → AllBytes shifted
      → (c : Choice)
      → choice_of number shifted anchors n o ≡ Ok c
      → EvidenceTold (Supports o.search_limit shifted anchors n o.min_trailer_count c.bv) c.grounds
