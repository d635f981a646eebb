-- Where rows start, put one by one, with zeros behind them and how many they are before them. Assumes nothing.
use Prim.Native.Nat.{ℕ, ◌+◌, ◌-◌, ◌*◌, ◌≤◌}
use mathlib.Core.Path.{◌≡◌, refl, ap, subst, ◌∙◌}
use mathlib.Core.List.{List, [], ◌++◌}
use native.Mathlib.Omega.{arith}
use lib.ListN.{length, replicate, length-replicate, get_or-eq_default}
use Rattle.lists.specs.Bytes.{byte_at}
use Rattle.lists.specs.Pieces.{joined}
use Rattle.numbers.specs.Numbers.{little_bytes}
use Rattle.numbers.specs.Writes.{Wrote}
use Rattle.numbers.proofs.Widths.{little-long}
use Rattle.numbers.proofs.Stored.{wrote-same, past-fit}
use Rattle.numbers.proofs.Kept.{wrote_then, wrote-earlier}
use Rattle.fields.specs.Fields.{width_of, field_bytes, size_of, layout_bytes, pair_entry, Put}
use Rattle.fields.proofs.Sizes.{fields-long, table-size}
use Rattle.fields.proofs.Puts.{layout-put}
use Rattle.fields.proofs.Pairs.{pairs-padded}
use Rattle.parts.specs.Parts.{slots_size, slots_fields}
use Rattle.parts.proofs.Sizes.{slots-size}
use Rattle.row_layout.specs.RowLayouts.{list_fields}

module _ (rows l : List ℕ) (a n : ℕ) (many : n ≡ length rows) (few : n ≤ 1024) where
  rows_behind : (k : ℕ) → n ≤ k → byte_at rows k ≡ 0
  rows_behind k h = get_or-eq_default rows 0 {n = k} (omega arith)

  entries-size : size_of (joined (pair_entry rows) n) ≡ 2 * n
  unfolding size_of width_of
  entries-size = table-size (pair_entry rows) 2 n (λ k. refl) ∙ omega arith

  pub rows-put :
      {o second after : List ℕ} {p q : ℕ}
      → Put l (a + 2) (joined (pair_entry rows) n) o (a + 2 + 2 * n)
      → Wrote o (a + 2 + 2 * n) (replicate (slots_size - 2 * n) 0) second p
      → Wrote second a (little_bytes 2 n) after q
      → a + (2 + slots_size) ≤ length l
      → Wrote l a (layout_bytes (list_fields rows)) after (a + (2 + slots_size))
  unfolding list_fields slots_fields layout_bytes field_bytes
  rows-put {o} {second} {after} {p} {q} starts zeros count h =
      let table : List ℕ = layout_bytes (joined (pair_entry rows) n) in
      let long : length table ≡ 2 * n = fields-long (joined (pair_entry rows) n) ∙ entries-size in
      let none : length (replicate {A = ℕ} (slots_size - 2 * n) 0) ≡ slots_size - 2 * n = length-replicate {A = ℕ} (slots_size - 2 * n) 0 in
      let whole : Wrote l (a + 2) (layout_bytes (slots_fields rows)) second p =
      wrote-same (pairs-padded rows n (slots_size - 2 * n) 1024 few (omega arith) rows_behind)
      (wrote_then (layout-put entries-size starts (omega arith)) zeros (omega arith)) in
      let size : length (layout_bytes (slots_fields rows)) ≡ slots_size = fields-long (slots_fields rows) ∙ slots-size rows in
      let two : length (little_bytes 2 n) ≡ 2 = little-long 2 n in
      let e : a + 2 + length (layout_bytes (slots_fields rows)) ≡ a + (2 + slots_size) = omega arith in
      subst (λ (k : ℕ). Wrote l a (little_bytes 2 k ++ layout_bytes (slots_fields rows)) after (a + (2 + slots_size))) many
      (subst (λ (k : ℕ). Wrote l a (little_bytes 2 n ++ layout_bytes (slots_fields rows)) after k) e (wrote-earlier whole count (omega arith) (omega arith)))

  -- the place behind the rows that were put
  pub starts-next : {after : List ℕ} {next : ℕ} → Put l a (joined (pair_entry rows) n) after next → a + 2 * n ≤ length l → next ≡ a + 2 * n
  starts-next q h =
      let w = layout-put entries-size q h in
      let long : length (layout_bytes (joined (pair_entry rows) n)) ≡ 2 * n = fields-long (joined (pair_entry rows) n) ∙ entries-size in
      w.place ∙ past-fit l a (length (layout_bytes (joined (pair_entry rows) n))) (omega arith) ∙ omega arith

-- no rows at all are zeros
none-zeros : replicate (2 + slots_size) 0 ≡ layout_bytes (list_fields [])
unfolding list_fields slots_fields layout_bytes field_bytes joined little_bytes
none-zeros = ap (λ (l : List ℕ). little_bytes 2 0 ++ l) (pairs-padded [] 0 slots_size 1024 (omega arith) (omega arith) (λ k h. refl))

pub no-rows : {l after : List ℕ} {a next : ℕ} → Wrote l a (replicate (2 + slots_size) 0) after next → Wrote l a (layout_bytes (list_fields [])) after next
no-rows w = wrote-same none-zeros w
