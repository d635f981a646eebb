-- Laws of the first look of the row-count test, and the theorem that it passes over no test that would pass. Assumes nothing.
use Rattle.std.proofs.Common.{Option, Some, None, ◌≡◌, ℕ, zero, suc, ◌+◌, ◌-◌, ◌<◌, ◌≤◌, min, Bool, true, false, ◌&&◌, ◌||◌, eqb, leb, List, [], ◌∷◌, length, take, drop, sym, refl, ap, subst, ◌∙◌, ⊎_elim, le_of_suc-le-suc, not-suc-le-zero, add-zero, add-suc, eq-or-lt_of_le, add-one, arith, le-leb, leb-true}
use borrow.Author.Tests.{lt-leb}
use Rattle.lists.specs.Bytes.{plain_of, byte_at, pair_at}
use Rattle.lists.proofs.Booleans.{and_left, and_right, and_yes, and-no-left, or_case, or_yes_right}
use Rattle.lists.proofs.Picks.{never_both}
use Rattle.slots.specs.Slots.{is_offset, words_from, falling, opening, slots_at, live_of, scan_from, scanned_directory, counted_back, counted, row_count_matches}
use Rattle.slots.specs.Pairs.{has_pair}
use Rattle.slots.specs.Looks.{is_array, may_count_at, may_count, NeverPassedOver}
use Rattle.slots.specs.declared.scans.Scan.{Scan}
use Rattle.slots.proofs.Words.{words-here, words-end, offset-high, offset-pos, offset-yes, offset-small, falling-zero, falling-live, falling-other, falling-above}
use Rattle.slots.proofs.RowCounts.{not_there, part_at, directory-start}
use Rattle.slots.proofs.Best.{scanned-best}

-- ---- four live slots, read one after the other

live-zero : (v : ℕ) (l : List ℕ) → v + live_of (0 ∷ l) ≡ v + live_of l
unfolding live_of
live-zero v l = refl

live_more : (v w : ℕ) (l : List ℕ) → (w ≡ 0 → ⊥) → v + live_of (w ∷ l) ≡ v + 1 + live_of l
unfolding live_of
live_more v zero l n = absurd (n refl)
live_more v (suc w) l n = omega arith

live-nil : (v : ℕ) → v + live_of [] ≡ v
unfolding live_of
live-nil v = omega arith

module _ (lim : ℕ) (p : List ℕ) (at : ℕ) where
  few-array : (v : ℕ) → live_of (slots_at lim p at) ≡ v → v ≤ 3 → false ≡ is_array lim p at
  unfolding is_array
  few-array v e h = sym (lt-leb 4 (live_of (slots_at lim p at)) (omega arith))

  pub array-past : lim ≤ at + 1 → false ≡ is_array lim p at
  unfolding slots_at opening live_of
  array-past h = few-array 0 (rw (words-end lim p at h) refl) (omega arith)

  module _ (w : ℕ) (le : lim ≤ length p) (h : at + 1 < lim) (e : w ≡ pair_at p at) where
    pub array-none : is_offset w ≡ false → false ≡ is_array lim p at
    unfolding slots_at opening live_of
    array-none o = few-array 0 (rw (words-here lim p at le w h e, o) refl) (omega arith)

    live-first : is_offset w ≡ true → live_of (slots_at lim p at) ≡ 0 + live_of (w ∷ falling w (words_from lim p (at + 2)))
    unfolding slots_at opening
    live-first o = rw (words-here lim p at le w h e, o) (omega arith)

-- what holds while fewer than four were seen: the live slots so far, and those to come
pub record Seen (lim : ℕ) (p : List ℕ) (at prev live pos : ℕ) : Type 0 where
  pub within : pos ≤ lim
  pub few : live ≤ 3
  pub low : prev < 0xFF0
  pub rest : live_of (slots_at lim p at) ≡ live + live_of (falling prev (words_from lim p pos))

pub seen_first : (lim : ℕ) (p : List ℕ) (at w : ℕ) → lim ≤ length p → at + 1 < lim → w ≡ pair_at p at → is_offset w ≡ true → Seen lim p at w 1 (at + 2)
seen_first lim p at w le h e o = record {
  within = omega arith;
  few = omega arith;
  low = offset-high w o;
  rest = live-first lim p at w le h e o ∙ live_more 0 w (falling w (words_from lim p (at + 2))) (offset-pos w o);
}

module _ (lim : ℕ) (p : List ℕ) (at prev live pos w : ℕ) (g : Seen lim p at prev live pos) (le : lim ≤ length p) (h : pos + 1 < lim) (e : w ≡ pair_at p pos) where
  rest-here : live_of (slots_at lim p at) ≡ live + live_of (falling prev (w ∷ words_from lim p (pos + 2)))
  rest-here = g.rest ∙ ap (λ (l : List ℕ). live + live_of (falling prev l)) (words-here lim p pos le w h e)

  rest_live : 0x20 ≤ w → w < prev → live_of (slots_at lim p at) ≡ live + 1 + live_of (falling w (words_from lim p (pos + 2)))
  rest_live b l =
      let o : is_offset w ≡ true = offset-yes w b (omega (arith, g.low)) in
      rest-here ∙ ap (λ (k : List ℕ). live + live_of k) (falling-live prev w (words_from lim p (pos + 2)) o l) ∙ live_more live w (falling w (words_from lim p (pos + 2))) (offset-pos w o)

  pub seen-zero : w ≡ 0 → Seen lim p at prev live (pos + 2)
  seen-zero z = record {
    within = omega arith;
    few = g.few;
    low = g.low;
    rest = rest-here ∙ ap (λ (k : List ℕ). live + live_of k) (falling-zero prev w (words_from lim p (pos + 2)) z) ∙ live-zero live _;
  }

  pub seen-live : 0x20 ≤ w → w < prev → (live ≡ 3 → ⊥) → Seen lim p at w (live + 1) (pos + 2)
  seen-live b l n = record {
    within = omega arith;
    few = omega (arith, g.few, n);
    low = omega (arith, g.low);
    rest = rest_live b l;
  }

  pub seen-four : 0x20 ≤ w → w < prev → live ≡ 3 → true ≡ is_array lim p at
  unfolding is_array
  seen-four b l n = sym (le-leb 4 (live_of (slots_at lim p at)) (omega (arith, rest_live b l)))

  pub seen-small : (w ≡ 0 → ⊥) → w < 0x20 → false ≡ is_array lim p at
  seen-small n b =
      few-array lim p at live (rest-here ∙ ap (λ (k : List ℕ). live + live_of k) (falling-other prev w (words_from lim p (pos + 2)) n (offset-small w b)) ∙ live-nil live) g.few

  pub seen-above : (w ≡ 0 → ⊥) → prev ≤ w → false ≡ is_array lim p at
  seen-above n l =
      few-array lim p at live (rest-here ∙ ap (λ (k : List ℕ). live + live_of k) (falling-above prev w (words_from lim p (pos + 2)) n l) ∙ live-nil live) g.few

pub seen_end : (lim : ℕ) (p : List ℕ) (at prev live pos : ℕ) → Seen lim p at prev live pos → lim ≤ pos + 1 → false ≡ is_array lim p at
unfolding falling
seen_end lim p at prev live pos g h =
    few-array lim p at live (g.rest ∙ ap (λ (l : List ℕ). live + live_of (falling prev l)) (words-end lim p pos h) ∙ live-nil live) g.few

pub seen-to : {lim : ℕ} {p : List ℕ} {at prev live pos : ℕ} (to : ℕ) → pos ≡ to → Seen lim p at prev live pos → Seen lim p at prev live to
seen-to {lim} {p} {at} {prev} {live} to e g = subst (Seen lim p at prev live) e g

-- ---- the positions

module _ (lim : ℕ) (p : List ℕ) (n : ℕ) where
  -- one position, by the tests in their order
  module _ (i : ℕ) (k : Bool) (e : k ≡ (eqb (byte_at p i) n && eqb (byte_at p (i + 1)) 0)) where
    pub at_other : k ≡ false → false ≡ may_count_at lim p n i
    unfolding may_count_at
    at_other q = rw (← e, q) refl

    pub at-four : k ≡ true → is_array lim p (i + 4) ≡ true → true ≡ may_count_at lim p n i
    unfolding may_count_at
    at-four q a = rw (← e, q, a) refl

    pub at-six : (r : Bool) → k ≡ true → is_array lim p (i + 4) ≡ false → r ≡ is_array lim p (i + 6) → r ≡ may_count_at lim p n i
    unfolding may_count_at
    at-six r q a b = rw (← e, q, a) b

  pub may_none : may_count lim p n 0 ≡ false
  unfolding may_count
  may_none = refl

  pub may_more : (i : ℕ) → may_count lim p n i ≡ false → may_count_at lim p n i ≡ false → may_count lim p n (i + 1) ≡ false
  unfolding may_count
  may_more i e f = rw (add-one, e, f) refl

  -- once seen at a position, seen by every later end
  pub may_at : (i end : ℕ) → i < end → may_count_at lim p n i ≡ true → may_count lim p n end ≡ true
  unfolding may_count
  may_at i zero h e = absurd (not-suc-le-zero h)
  may_at i (suc end) h e =
      ⊎_elim (λ k. or_yes_right (may_count lim p n end) (may_count_at lim p n end) (rw (← k) e)) (λ k. rw (may_at i end k e) refl) (eq-or-lt_of_le (le_of_suc-le-suc h))

  may-on : (i more : ℕ) → may_count lim p n i ≡ true → may_count lim p n (i + more) ≡ true
  unfolding may_count
  may-on i zero e = rw add-zero e
  may-on i (suc more) e = rw (add-suc, may-on i more e) refl

  pub may-later : (i end : ℕ) → i ≤ end → may_count lim p n i ≡ true → may_count lim p n end ≡ true
  may-later i end h e = let f : i + (end - i) ≡ end = omega arith in ap (may_count lim p n) (sym f) ∙ may-on i (end - i) e

  -- positions without the pair
  may-passed : (at k : ℕ) → may_count lim p n at ≡ false → ((i : ℕ) → i < k → (eqb (byte_at p (at + i)) n && eqb (byte_at p (at + i + 1)) 0) ≡ false) → may_count lim p n (at + k) ≡ false
  unfolding may_count_at
  may-passed at zero e h = rw add-zero e
  may-passed at (suc k) e h =
      let g : at + k + 1 ≡ at + suc k = omega arith in
      ap (may_count lim p n) (sym g) ∙ may_more (at + k) (may-passed at k e (λ i l. h i (omega arith))) (and-no-left _ _ (h k (omega arith)))

-- a block of the bytes without the pair
pub may-block :
    (lim bv : ℕ) (xs p : List ℕ) (n at k m : ℕ)
    → k ≡ 65
    → at + 64 < length xs
    → p ≡ plain_of bv (take k (drop at xs))
    → m ≡ 64
    → may_count lim (plain_of bv xs) n at ≡ false
    → has_pair n 0 p m ≡ false
    → may_count lim (plain_of bv xs) n (at + 64) ≡ false
may-block lim bv xs p n at k m e h q g none_yet none-there = may-passed lim (plain_of bv xs) n at 64 none_yet none
  where
    none : (i : ℕ) → i < 64 → (eqb (byte_at (plain_of bv xs) (at + i)) n && eqb (byte_at (plain_of bv xs) (at + i + 1)) 0) ≡ false
    none i l =
        let f : at + (i + 1) ≡ at + i + 1 = omega arith in
        rw (← part_at bv xs at k i (omega arith) (omega arith), ← f, ← part_at bv xs at k (i + 1) (omega arith) (omega arith))
        (not_there n 0 (plain_of bv (take k (drop at xs))) 64 (rw (← q, ← g) none-there) i l)

-- ---- the theorem

module _ (lim : ℕ) (p : List ℕ) (n t : ℕ) where
  -- a directory has four live slots where it starts
  directory-array : (d : Scan) → scanned_directory lim p ≡ Some d → is_array lim p d.start ≡ true
  unfolding is_array scan_from
  directory-array d q =
      let b = scanned-best lim p d q in
      let e = b.0.is-scan in
      let s = ap (λ (x : Scan). x.start) e in
      let v = ap (λ (x : Scan). x.live) e in
      le-leb 4 (live_of (slots_at lim p d.start)) (rw (s, ← v) b.1)

  -- so a count before it is seen, six bytes back or four
  back-seen : (start back : ℕ) → start ≤ lim + 1 → start ≤ length p + 1 → 4 ≤ back → counted_back p start n back ≡ true → ((i : ℕ) → i + back ≡ start → (is_array lim p (i + 4) || is_array lim p (i + 6)) ≡ true) → may_count lim p n (min lim (length p - 1)) ≡ true
  unfolding counted_back may_count_at
  back-seen start back h k l e a =
      let m : back + 2 ≤ start = leb-true (back + 2) start (and_left _ _ e) in
      may_at lim p n (start - back) (min lim (length p - 1)) (omega arith) (and_yes _ _ (and_right (leb (back + 2) start) _ e) (a (start - back) (omega arith)))

  pub never-passed-over : row_count_matches lim p n t ≡ true → may_count lim p n (min lim (length p - 1)) ≡ true
  unfolding row_count_matches counted
  never-passed-over passes = go (scanned_directory lim p) refl (and_right (leb t n) _ passes)
    where
      go : (r : Option Scan) → r ≡ scanned_directory lim p → counted p n r ≡ true → may_count lim p n (min lim (length p - 1)) ≡ true
      go None q e = absurd (never_both refl e)
      go (Some d) q e =
          let s : (d.start ≤ lim + 1) × (d.start ≤ length p + 1) = directory-start lim p (Some d) d q refl in
          let a : is_array lim p d.start ≡ true = directory-array d (sym q) in
          or_case _ (counted_back p d.start n 6) _ e
          (λ b. back-seen d.start 6 s.0 s.1 (omega arith) b (λ i f. or_yes_right (is_array lim p (i + 4)) _ (rw f a)))
          (λ b. back-seen d.start 4 s.0 s.1 (omega arith) b (λ i f. rw (f, a) refl))

  -- as the test uses it
  pub passed_over : may_count lim p n (min lim (length p - 1)) ≡ false → false ≡ row_count_matches lim p n t
  passed_over e = go (row_count_matches lim p n t) refl
    where
      go : (b : Bool) → row_count_matches lim p n t ≡ b → false ≡ b
      go false q = refl
      go true q = absurd (never_both e (never-passed-over q))

pub never-passes-over : NeverPassedOver
never-passes-over = record { looked = never-passed-over }
