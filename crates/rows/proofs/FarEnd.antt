-- The rows of a falling directory: read from its far end, the kept offsets ascend. Assumes nothing.
use Prim.Native.Nat.{ℕ, zero, suc, ◌+◌, ◌-◌, ◌*◌, ◌≤◌, ◌<◌}
use Rattle.std.proofs.Common.{Option, None}
use mathlib.Core.Path.{◌≡◌, refl, sym, ap, ◌∙◌, subst}
use mathlib.Core.List.{List, [], ◌∷◌, ◌++◌, append-nil}
use mathlib.Core.Bool.{Bool, true, false, ◌&&◌, not}
use native.Mathlib.Omega.{arith}
use native.Mathlib.Nat.{not-suc-le-zero}
use lib.ListN.{length}
use lib.Dec.{ltb, leb}
use borrow.Author.Tests.{lt-leb, ltb-true}
use Rattle.lists.specs.Cases.{pick}
use Rattle.lists.specs.Bytes.{pair_at}
use Rattle.lists.specs.Pieces.{each, keep}
use Rattle.lists.proofs.Booleans.{and_left}
use Rattle.lists.proofs.Keep.{keep_append}
use Rattle.directory.specs.Directory.{slots_of, Falls}
use Rattle.lists.specs.Sorting.{insert}
use Rattle.lists.proofs.Sorting.{insert-length}
use Rattle.rows.specs.Rows.{is_kept, ascending, rows_at, from_end, head_or, At, row_in}
use Rattle.rows.specs.declared.spans.Span.{Span}

-- v is below every element
abbrev Above : ℕ → List ℕ → Type 0
Above v [] = Unit {0}
Above v (x ∷ l) = (v < x) × Above v l

falls-init : (prev v : ℕ) (l : List ℕ) → Falls prev (l ++ (v ∷ [])) → Falls prev l
falls-init prev v [] d = tt
falls-init prev v (zero ∷ l) d = falls-init prev v l d
falls-init prev v (suc x ∷ l) d = (d.0, falls-init (suc x) v l d.1)

falls-last : (prev v : ℕ) (l : List ℕ) → 0 < v → Falls prev (l ++ (v ∷ [])) → v < prev
falls-last prev zero [] h d = absurd (not-suc-le-zero h)
falls-last prev (suc v) [] h d = d.0
falls-last prev v (zero ∷ l) h d = falls-last prev v l h d
falls-last prev v (suc x ∷ l) h d =
    let a : v < suc x = falls-last (suc x) v l h d.1 in
    let b : suc x < prev = d.0 in
    omega arith

module _ (s e : ℕ) where
  kept-pos : (v : ℕ) → is_kept s e v ≡ true → 0 < v
  unfolding is_kept
  kept-pos v k = ltb-true 0 v (and_left (ltb 0 v) (not (leb s v && ltb v e)) k)

  above_kept : (prev v : ℕ) (l : List ℕ) → 0 < v → Falls prev (l ++ (v ∷ [])) → Above v (keep (is_kept s e) l)
  unfolding keep
  above_kept prev v [] h d = tt
  above_kept prev v (zero ∷ l) h d = go (is_kept s e 0) refl (above_kept prev v l h d)
    where
      go : (b : Bool) → is_kept s e 0 ≡ b → Above v (keep (is_kept s e) l) → Above v (pick b (0 ∷ keep (is_kept s e) l) (keep (is_kept s e) l))
      go true q a = absurd (not-suc-le-zero (kept-pos 0 q))
      go false q a = a
  above_kept prev v (suc x ∷ l) h d = go (is_kept s e (suc x)) (above_kept (suc x) v l h d.1)
    where
      go : (b : Bool) → Above v (keep (is_kept s e) l) → Above v (pick b (suc x ∷ keep (is_kept s e) l) (keep (is_kept s e) l))
      go true a = (falls-last (suc x) v l h d.1, a)
      go false a = a

-- an element below all others stands first
ascending-last : (v : ℕ) (l : List ℕ) → Above v l → ascending (l ++ (v ∷ [])) ≡ v ∷ ascending l
unfolding ascending insert
ascending-last v [] a = refl
ascending-last v (x ∷ l) a = ap (insert leb x) (ascending-last v l a.1) ∙ rw (lt-leb x v a.0) refl

module _ (plain : List ℕ) (start stop : ℕ) where
  abbrev slot_at : ℕ → ℕ
  slot_at k = pair_at plain (start + 2 * k)

  last-kept : (prev v : ℕ) (l up : List ℕ) → Falls prev (l ++ (v ∷ [])) → (b : Bool) → is_kept start stop v ≡ b → ascending (keep (is_kept start stop) l) ≡ up → ascending (keep (is_kept start stop) l ++ pick b (v ∷ []) []) ≡ pick b (v ∷ up) up
  last-kept prev v l up d true q ih = ascending-last v (keep (is_kept start stop) l) (above_kept start stop prev v l (kept-pos start stop v q) d) ∙ ap (λ (x : List ℕ). v ∷ x) ih
  last-kept prev v l up d false q ih = ap ascending (append-nil (keep (is_kept start stop) l)) ∙ ih

  keep_one : (v : ℕ) → keep (is_kept start stop) (v ∷ []) ≡ pick (is_kept start stop v) (v ∷ []) []
  unfolding keep
  keep_one v = refl

  ascending-end : (prev k : ℕ) → Falls prev (slots_of plain start k) → ascending (keep (is_kept start stop) (slots_of plain start k)) ≡ from_end plain start stop k
  unfolding each from_end
  ascending-end prev zero d = unfold ascending keep in refl
  ascending-end prev (suc k) d =
      ap ascending (keep_append (is_kept start stop) (slots_of plain start k) (slot_at k ∷ []) ∙ ap (λ (x : List ℕ). keep (is_kept start stop) (slots_of plain start k) ++ x) (keep_one (slot_at k)))
      ∙ last-kept prev (slot_at k) (slots_of plain start k) (from_end plain start stop k) d (is_kept start stop (slot_at k)) refl (ascending-end prev k (falls-init prev (slot_at k) (slots_of plain start k) d))

  -- offsets that ascend, each below the next and the last below 0xFF0
  module _ (v k : ℕ) (h : 0 < k) (e : v ≡ pair_at plain (start + 2 * (k - 1))) where
    end_step : from_end plain start stop k ≡ pick (is_kept start stop v) (v ∷ from_end plain start stop (k - 1)) (from_end plain start stop (k - 1))
    end_step = rw e (one k h)
      where
        one : (k : ℕ) → 0 < k → from_end plain start stop k ≡ pick (is_kept start stop (pair_at plain (start + 2 * (k - 1)))) (pair_at plain (start + 2 * (k - 1)) ∷ from_end plain start stop (k - 1)) (from_end plain start stop (k - 1))
        one zero h = absurd (not-suc-le-zero h)
        one (suc k) h = let z : suc k - 1 ≡ k = omega arith in rw z (unfold from_end in refl)

    pub end_kept : is_kept start stop v ≡ true → from_end plain start stop k ≡ v ∷ from_end plain start stop (k - 1)
    end_kept q = end_step ∙ rw q refl

    pub end-not : is_kept start stop v ≡ false → from_end plain start stop k ≡ from_end plain start stop (k - 1)
    end-not q = end_step ∙ rw q refl

-- the rows of a sound directory
pub rows_end : (plain : List ℕ) (start count : ℕ) → Falls 0xFF0 (slots_of plain start count) → rows_at plain start count ≡ from_end plain start (start + 2 * count) count
unfolding rows_at
rows_end plain start count d = ascending-end plain start (start + 2 * count) 0xFF0 count d

-- what is left to find: the row's number among the offsets to come, or, once its offset is known, its end
pub sought : ℕ → ℕ → List ℕ → Option Span
sought zero left l = row_in left l
sought (suc o) left l = At (suc o) (head_or 0xFF0 l)

module _ (v left : ℕ) (l : List ℕ) where
  sought-found : (o : ℕ) → (o ≡ 0 → ⊥) → sought o left (v ∷ l) ≡ At o v
  unfolding sought
  sought-found zero n = absurd (n refl)
  sought-found (suc o) n = refl

  sought-here : left ≡ 0 → 0 < v → sought 0 left (v ∷ l) ≡ sought v left l
  sought-here z h = rw z (go v h)
    where
      go : (v : ℕ) → 0 < v → sought 0 0 (v ∷ l) ≡ sought v 0 l
      go zero h = absurd (not-suc-le-zero h)
      go (suc v) h = unfold sought row_in in refl

  sought-on : (left ≡ 0 → ⊥) → sought 0 left (v ∷ l) ≡ sought 0 (left - 1) l
  sought-on n = go left n
    where
      go : (left : ℕ) → (left ≡ 0 → ⊥) → sought 0 left (v ∷ l) ≡ sought 0 (left - 1) l
      go zero n = absurd (n refl)
      go (suc left) n = let z : suc left - 1 ≡ left = omega arith in rw z (unfold sought row_in in refl)

sought-end : (o left : ℕ) → (o ≡ 0 → ⊥) → sought o left [] ≡ At o 0xFF0
unfolding sought
sought-end zero left n = absurd (n refl)
sought-end (suc o) left n = refl

sought-none : (left : ℕ) → sought 0 left [] ≡ None
unfolding sought row_in
sought-none zero = refl
sought-none (suc left) = refl

-- what holds while row r is looked for from the far end, with k slots to go
pub record Seeking (plain : List ℕ) (start count r stop k left offset : ℕ) : Type 0 where
  pub within : k ≤ count
  pub ends : stop ≡ start + 2 * count
  pub rest : row_in r (rows_at plain start count) ≡ sought offset left (from_end plain start stop k)

pub seek-first : (plain : List ℕ) (start count r : ℕ) → Falls 0xFF0 (slots_of plain start count) → Seeking plain start count r (start + 2 * count) count r 0
unfolding sought
seek-first plain start count r d = record { within = omega arith; ends = refl; rest = ap (row_in r) (rows_end plain start count d) }

module _ (plain : List ℕ) (start count r stop k left o : ℕ) (g : Seeking plain start count r stop k left o) where
  module _ (v : ℕ) (h : 0 < k) (e : v ≡ pair_at plain (start + 2 * (k - 1))) where
    pub seek-skip : is_kept start stop v ≡ false → Seeking plain start count r stop (k - 1) left o
    seek-skip q = record { within = omega (arith, g.within); ends = g.ends; rest = g.rest ∙ ap (sought o left) (end-not plain start stop v k h e q) }

    module _ (q : is_kept start stop v ≡ true) where
      seek-one : row_in r (rows_at plain start count) ≡ sought o left (v ∷ from_end plain start stop (k - 1))
      seek-one = g.rest ∙ ap (sought o left) (end_kept plain start stop v k h e q)

      pub seek_found : (o ≡ 0 → ⊥) → At o v ≡ row_in r (rows_at plain start count)
      seek_found n = sym (seek-one ∙ sought-found v left (from_end plain start stop (k - 1)) o n)

      module _ (z : o ≡ 0) where
        seek-zero : row_in r (rows_at plain start count) ≡ sought 0 left (v ∷ from_end plain start stop (k - 1))
        seek-zero = rw z at seek-one

        pub seek-here : left ≡ 0 → Seeking plain start count r stop (k - 1) left v
        seek-here y = record { within = omega (arith, g.within); ends = g.ends; rest = seek-zero ∙ sought-here v left (from_end plain start stop (k - 1)) y (kept-pos start stop v q) }

        pub seek-on : (left ≡ 0 → ⊥) → Seeking plain start count r stop (k - 1) (left - 1) o
        seek-on n = record { within = omega (arith, g.within); ends = g.ends; rest = rw z (seek-zero ∙ sought-on v left (from_end plain start stop (k - 1)) n) }

  module _ (h : k ≤ 0) where
    seek-over : row_in r (rows_at plain start count) ≡ sought o left []
    unfolding from_end
    seek-over = let z : k ≡ 0 = omega arith in rw z at g.rest

    pub seek-end : (o ≡ 0 → ⊥) → At o 0xFF0 ≡ row_in r (rows_at plain start count)
    seek-end n = sym (seek-over ∙ sought-end o left n)

    pub seek-none : o ≡ 0 → None ≡ row_in r (rows_at plain start count)
    seek-none z = sym (seek-over ∙ rw z (sought-none left))

-- how many rows: as many as kept slots
ascending-length : (l : List ℕ) → length (ascending l) ≡ length l
unfolding ascending
ascending-length [] = refl
ascending-length (x ∷ l) = insert-length leb x (ascending l) ∙ ap suc (ascending-length l)

pub rows-length : (plain : List ℕ) (start count : ℕ) → length (keep (is_kept start (start + 2 * count)) (slots_of plain start count)) ≡ length (rows_at plain start count)
unfolding rows_at
rows-length plain start count = sym (ascending-length (keep (is_kept start (start + 2 * count)) (slots_of plain start count)))

-- the rows ascend below 0xFF0
unfoldable pub Up : List ℕ → Type 0
Up [] = Unit {0}
Up (x ∷ l) = (x < head_or 0xFF0 l) × Up l

above-head : (v : ℕ) (l : List ℕ) → v < 0xFF0 → Above v l → v < head_or 0xFF0 l
above-head v [] h a = h
above-head v (x ∷ l) h a = a.0

above-insert : (v x : ℕ) (l : List ℕ) → v < x → Above v l → Above v (insert leb x l)
unfolding insert
above-insert v x [] h a = (h, tt)
above-insert v x (y ∷ l) h a = go (leb x y) (above-insert v x l h a.1)
  where
    go : (b : Bool) → Above v (insert leb x l) → Above v (pick b (x ∷ y ∷ l) (y ∷ insert leb x l))
    go true i = (h, a)
    go false i = (a.0, i)

above-ascending : (v : ℕ) (l : List ℕ) → Above v l → Above v (ascending l)
unfolding ascending
above-ascending v [] a = tt
above-ascending v (x ∷ l) a = above-insert v x (ascending l) a.0 (above-ascending v l a.1)

end-up : (plain : List ℕ) (start stop k : ℕ) → Falls 0xFF0 (slots_of plain start k) → Up (from_end plain start stop k)
unfolding from_end Up each
end-up plain start stop zero d = tt
end-up plain start stop (suc k) d = go (is_kept start stop v) refl (end-up plain start stop k (falls-init 0xFF0 v l d))
  where
    v : ℕ
    v = pair_at plain (start + 2 * k)

    l : List ℕ
    l = slots_of plain start k

    go : (b : Bool) → is_kept start stop v ≡ b → Up (from_end plain start stop k) → Up (pick b (v ∷ from_end plain start stop k) (from_end plain start stop k))
    go true q u =
        let pos : 0 < v = kept-pos start stop v q in
        let a : Above v (from_end plain start stop k) = subst (Above v) (ascending-end plain start stop 0xFF0 k (falls-init 0xFF0 v l d)) (above-ascending v (keep (is_kept start stop) l) (above_kept start stop 0xFF0 v l pos d)) in
        (above-head v (from_end plain start stop k) (falls-last 0xFF0 v l pos d) a, u)
    go false q u = u

pub rows-up : (plain : List ℕ) (start count : ℕ) → Falls 0xFF0 (slots_of plain start count) → Up (rows_at plain start count)
rows-up plain start count d = subst Up (sym (rows_end plain start count d)) (end-up plain start (start + 2 * count) count d)
