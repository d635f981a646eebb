-- The slots of a directory, copied from the page with zeros behind them, are its table. Assumes nothing.
use Prim.Native.Nat.{ℕ, ◌+◌, ◌-◌, ◌*◌, ◌≤◌, ◌<◌}
use mathlib.Core.Path.{◌≡◌, sym, ap, ◌∙◌}
use mathlib.Core.List.{List, [], ◌++◌}
use native.Mathlib.Omega.{arith}
use lib.ListN.{length, take, drop, replicate, length-append, length-drop, length-replicate, get_or-append}
use lib.Seq.{length-take-le, get_or-append-add}
use Rattle.lists.specs.Bytes.{byte_at, pair_at}
use Rattle.lists.proofs.Each.{each-length, each_at}
use Rattle.lists.proofs.Zeros.{zeros-at}
use Rattle.std.proofs.Common.{None, refl}
use Rattle.lists.specs.Pieces.{each}
use Rattle.numbers.specs.Numbers.{little_bytes}
use Rattle.numbers.specs.Writes.{Wrote}
use Rattle.numbers.proofs.Stored.{wrote-same}
use Rattle.directory.specs.Directory.{slots_of}
use Rattle.slotted.specs.Parses.{table_of}
use Rattle.fields.specs.Fields.{layout_bytes, field_bytes}
use Rattle.fields.proofs.Pairs.{pairs-padded, page-bytes}
use Rattle.parts.specs.Parts.{slots_size, slots_fields}
use Rattle.parse_layout.specs.FromPage.{listed_fields, found_fields, listed_or_zeros, padded_slots}

-- padded bytes fill their table
pub padded-long : (bytes : List ℕ) → length bytes ≤ slots_size → length (padded_slots bytes) ≡ slots_size
padded-long bytes h = length-append bytes (replicate (slots_size - length bytes) 0) ∙ omega (arith, length-replicate {A = ℕ} (slots_size - length bytes) 0)

-- the table of a directory has its slots, and zeros behind them
module _ (plain : List ℕ) (start count : ℕ) (few : count ≤ 1024) where
  abbrev slots : List ℕ
  slots = slots_of plain start count

  many : length slots ≡ count
  many = each-length (λ j. pair_at plain (start + 2 * j)) count

  table_at : (k : ℕ) → k < count → byte_at (table_of slots) k ≡ pair_at plain (start + 2 * k)
  table_at k h =
      get_or-append slots (replicate (1024 - length slots) 0) 0 k (omega (arith, many)) ∙ each_at (λ j. pair_at plain (start + 2 * j)) count k 0 h

  table-behind : (k : ℕ) → count ≤ k → byte_at (table_of slots) k ≡ 0
  table-behind k h =
      let e : k ≡ length slots + (k - count) = omega (arith, many) in
      ap (byte_at (table_of slots)) e ∙ get_or-append-add slots (replicate (1024 - length slots) 0) (k - count) 0 ∙ zeros-at (1024 - length slots) (k - count)

  pub slots-padded :
      (part : List ℕ)
      → ((i : ℕ) → byte_at plain i < 256)
      → start + 2 * count ≤ length plain
      → part ≡ take (2 * count) (drop start plain)
      → padded_slots part ≡ layout_bytes (slots_fields (table_of slots))
  unfolding slots_fields
  slots-padded part bytes h e =
      let n : length part ≡ 2 * count = ap length e ∙ length-take-le (2 * count) (drop start plain) (omega (arith, length-drop start plain)) in
      ap (λ (u : List ℕ). u ++ replicate (slots_size - length part) 0) (e ∙ sym (page-bytes (table_of slots) plain start bytes count h table_at))
      ∙ pairs-padded (table_of slots) count (slots_size - length part) 1024 few (omega arith) table-behind

-- no directory is zeros
none-zeros : (plain : List ℕ) → replicate (10 + slots_size) 0 ≡ layout_bytes (listed_or_zeros plain None)
unfolding found_fields listed_fields layout_bytes field_bytes little_bytes each
none-zeros plain = ap (λ (l : List ℕ). replicate 10 0 ++ l) (slots-padded [] 0 0 (omega arith) [] (λ i. omega arith) (omega arith) refl)

pub no-directory : (plain : List ℕ) {l after : List ℕ} {a next : ℕ} → Wrote l a (replicate (10 + slots_size) 0) after next → Wrote l a (layout_bytes (listed_or_zeros plain None)) after next
no-directory plain w = wrote-same (none-zeros plain) w
