-- Laws of a table of numbers of two bytes: stored entry by entry, or copied from a page that has the pairs; zeros stand behind what is used.
-- Assumes nothing.
use Prim.Native.Nat.{ℕ, zero, suc, ◌+◌, ◌-◌, ◌*◌, ◌/◌, ◌%◌, ◌≤◌, ◌<◌}
use mathlib.Core.Path.{◌≡◌, refl, sym, ap, ap₂, subst, ◌∙◌}
use mathlib.Core.List.{List, [], ◌∷◌, ◌++◌, append_assoc, append-nil}
use native.Mathlib.Omega.{arith}
use lib.ListN.{length, take, drop, set, replicate, length-drop}
use lib.Seq.{get_or-drop}
use Rattle.lists.specs.Bytes.{byte_at, pair_at}
use Rattle.lists.specs.Pieces.{joined}
use Rattle.lists.proofs.Filled.{take_more}
use Rattle.lists.proofs.Zeros.{zeros-two}
use Rattle.numbers.specs.Numbers.{little_bytes}
use Rattle.numbers.specs.Writes.{Wrote}
use Rattle.numbers.proofs.Widths.{little-pair}
use Rattle.numbers.proofs.Stored.{stores, stores_from, wrote-stored}
use Rattle.fields.specs.Fields.{field_bytes, layout_bytes, pair_entry, Put}
use Rattle.fields.proofs.Sizes.{layout-append}
use Rattle.fields.proofs.Puts.{put-none, put-field}
use Rattle.fields.proofs.Tables.{table_none, table_more}

-- ---- a table, stored entry by entry

module _ (t l : List ℕ) (a : ℕ) where
  pub pairs-none : Put l a (joined (pair_entry t) 0) l (a + 2 * 0)
  pairs-none =
      let e : a ≡ a + 2 * 0 = omega arith in subst (λ (p : ℕ). Put l a (joined (pair_entry t) 0) l p) e (table_none (pair_entry t))

  stored : (o : List ℕ) (p v : ℕ) → p + 2 ≤ length o → Wrote o p (little_bytes 2 v) (set (set o p (v % 256)) (p + 1) (v / 256 % 256)) (p + 2)
  unfolding little_bytes stores stores_from
  stored o p v h = wrote-stored h refl refl

  pub pairs-more :
      (o : List ℕ) (s : ℕ)
      → Put l a (joined (pair_entry t) s) o (a + 2 * s)
      → a + 2 * s + 2 ≤ length o
      → Put l a (joined (pair_entry t) (s + 1)) (set (set o (a + 2 * s) (byte_at t s % 256)) (a + 2 * s + 1) (byte_at t s / 256 % 256)) (a + 2 * (s + 1))
  unfolding field_bytes
  pairs-more o s q h =
      let v : ℕ = byte_at t s in
      let p : ℕ = a + 2 * s in
      let after : List ℕ = set (set o p (v % 256)) (p + 1) (v / 256 % 256) in
      let e : p + 2 ≡ a + 2 * (s + 1) = omega arith in
      subst (λ (n : ℕ). Put l a (joined (pair_entry t) (s + 1)) after n) e
      (table_more (pair_entry t) q (put-field (stored o p v h) put-none))

-- ---- a table of which m places are used, and zeros behind them

module _ (t : List ℕ) where
  -- the bytes of an entry
  entry-bytes : (k : ℕ) → layout_bytes (pair_entry t k) ≡ little_bytes 2 (byte_at t k)
  unfolding layout_bytes field_bytes
  entry-bytes k = append-nil (little_bytes 2 (byte_at t k))

  one_more : (n : ℕ) → layout_bytes (joined (pair_entry t) (suc n)) ≡ layout_bytes (joined (pair_entry t) n) ++ layout_bytes (pair_entry t n)
  unfolding joined
  one_more n = layout-append (joined (pair_entry t) n) (pair_entry t n)

  zeros-behind :
      (m j : ℕ)
      → ((k : ℕ) → m ≤ k → byte_at t k ≡ 0)
      → layout_bytes (joined (pair_entry t) (m + j)) ≡ layout_bytes (joined (pair_entry t) m) ++ replicate (2 * j) 0
  zeros-behind m zero z =
      let e : m + 0 ≡ m = omega arith in
      ap (λ (n : ℕ). layout_bytes (joined (pair_entry t) n)) e ∙ sym (append-nil (layout_bytes (joined (pair_entry t) m)))
  zeros-behind m (suc j) z =
      let e : m + suc j ≡ suc (m + j) = omega arith in
      let f : suc (suc (2 * j)) ≡ 2 * suc j = omega arith in
      let front : List ℕ = layout_bytes (joined (pair_entry t) m) in
      let none : layout_bytes (pair_entry t (m + j)) ≡ 0 ∷ 0 ∷ [] =
      entry-bytes (m + j) ∙ ap (little_bytes 2) (z (m + j) (omega arith)) ∙ little-pair 0 0 (omega arith) (omega arith) in
      ap (λ (n : ℕ). layout_bytes (joined (pair_entry t) n)) e
      ∙ one_more (m + j)
      ∙ ap₂ (λ (u v : List ℕ). u ++ v) (zeros-behind m j z) none
      ∙ append_assoc front (replicate (2 * j) 0) (0 ∷ 0 ∷ [])
      ∙ ap (λ (l : List ℕ). front ++ l) (zeros-two (2 * j) ∙ ap (λ (n : ℕ). replicate n 0) f)

  pub pairs-padded :
      (m n all : ℕ)
      → m ≤ all
      → n ≡ 2 * (all - m)
      → ((k : ℕ) → m ≤ k → byte_at t k ≡ 0)
      → layout_bytes (joined (pair_entry t) m) ++ replicate n 0 ≡ layout_bytes (joined (pair_entry t) all)
  pairs-padded m n all h e z =
      let whole : m + (all - m) ≡ all = omega arith in
      ap (λ (i : ℕ). layout_bytes (joined (pair_entry t) m) ++ replicate i 0) e
      ∙ sym (zeros-behind m (all - m) z)
      ∙ ap (λ (i : ℕ). layout_bytes (joined (pair_entry t) i)) whole

  -- places that hold the pairs of a page have its bytes
  module _ (plain : List ℕ) (start : ℕ) (bytes : (i : ℕ) → byte_at plain i < 256) where
    two-more : (j : ℕ) → start + (j + 2) ≤ length plain → take (j + 2) (drop start plain) ≡ take j (drop start plain) ++ (byte_at plain (start + j) ∷ byte_at plain (start + j + 1) ∷ [])
    two-more j h =
        let l : List ℕ = drop start plain in
        let n : length l ≡ length plain - start = length-drop start plain in
        let e : j + 2 ≡ j + 1 + 1 = omega arith in
        let f : start + (j + 1) ≡ start + j + 1 = omega arith in
        ap (λ (k : ℕ). take k l) e
        ∙ sym (take_more l 0 (j + 1) (omega arith))
        ∙ ap (λ (u : List ℕ). u ++ (byte_at l (j + 1) ∷ [])) (sym (take_more l 0 j (omega arith)))
        ∙ append_assoc (take j l) (byte_at l j ∷ []) (byte_at l (j + 1) ∷ [])
        ∙ ap₂ (λ (x y : ℕ). take j l ++ (x ∷ y ∷ [])) (get_or-drop start plain j 0) (get_or-drop start plain (j + 1) 0 ∙ ap (byte_at plain) f)

    pub page-bytes :
        (m : ℕ)
        → start + 2 * m ≤ length plain
        → ((k : ℕ) → k < m → byte_at t k ≡ pair_at plain (start + 2 * k))
        → layout_bytes (joined (pair_entry t) m) ≡ take (2 * m) (drop start plain)
    page-bytes zero h e = unfold joined layout_bytes in refl
    page-bytes (suc m) h e =
        let a : ℕ = byte_at plain (start + 2 * m) in
        let b : ℕ = byte_at plain (start + 2 * m + 1) in
        let v : byte_at t m ≡ a + 256 * b = e m (omega arith) in
        let two : 2 * m + 2 ≡ 2 * suc m = omega arith in
        one_more m
        ∙ ap₂ (λ (u w : List ℕ). u ++ w) (page-bytes m (omega arith) (λ k l. e k (omega arith)))
        (entry-bytes m ∙ ap (little_bytes 2) v ∙ little-pair a b (bytes (start + 2 * m)) (bytes (start + 2 * m + 1)))
        ∙ sym (two-more (2 * m) (omega arith))
        ∙ ap (λ (k : ℕ). take k (drop start plain)) two
