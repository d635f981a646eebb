-- Laws of the row-count test. Assumes nothing.
use Rattle.std.proofs.Common.{Option, Some, None, ◌≡◌, ℕ, zero, suc, ◌+◌, ◌-◌, ◌<◌, ◌≤◌, min, Bool, true, false, ◌&&◌, ◌||◌, eqb, ltb, leb, List, length, take, drop, sym, refl, ap, ◌∙◌, ⊎_elim, le_of_suc-le-suc, not-suc-le-zero, eq-or-lt_of_le, add-one, arith, length-drop, length-take-le, get_or-drop, get_or-take, eq-eqb, ne_eqb, le-leb, leb-false, leb-true}
use borrow.Author.Tests.{lt-leb}
use Rattle.lists.proofs.Booleans.{or-no-left, or-no-right}
use Rattle.lists.specs.Cases.{pick}
use Rattle.lists.specs.Bytes.{less, plain_of, byte_at, pair_at}
use Rattle.lists.proofs.Plain.{plain_at}
use Rattle.answers.specs.Settings.{limit_fits}
use Rattle.slots.specs.Slots.{is_offset, array_start_of, scan_from, stronger, best_scan, directory_from, scanned_directory, counted_back, counted, row_count_matches, page_matches}
use Rattle.slots.specs.Pairs.{has_pair}
use Rattle.slots.specs.declared.scans.Scan.{Scan}
use Rattle.slots.proofs.Limits.{scanned-past, scanned_min}

-- a directory starts at most one past the limit, and one past the end of the bytes
start-bound : (lim : ℕ) (p : List ℕ) (s : ℕ) → array_start_of lim p s ≤ s + 2
unfolding array_start_of
start-bound lim p s = go (ltb (s + 3) lim && (eqb (pair_at p s) 0 && is_offset (pair_at p (s + 2))))
  where
    go : (b : Bool) → pick b (s + 2) s ≤ s + 2
    go true = omega arith
    go false = omega arith

stronger-start : (b c : Scan) (k : ℕ) → b.start ≤ k → c.start ≤ k → (stronger b c).start ≤ k
unfolding stronger
stronger-start b c k hb hc = go (ltb b.live c.live || (eqb b.live c.live && ltb b.slots c.slots))
  where
    go : (t : Bool) → (pick t c b).start ≤ k
    go true = hc
    go false = hb

best-start : (lim : ℕ) (p : List ℕ) (n : ℕ) → (best_scan lim p n).start ≤ n + 1
unfolding best_scan scan_from
best-start lim p zero = omega arith
best-start lim p (suc n) =
    let h : (best_scan lim p n).start ≤ n + 1 = best-start lim p n in
    let k : array_start_of lim p n ≤ n + 2 = start-bound lim p n in
    stronger-start (best_scan lim p n) (scan_from lim p n) (suc n + 1) (omega arith) (omega arith)

start_of : Option Scan → ℕ
start_of None = 0
start_of (Some d) = d.start

scanned-start : (lim : ℕ) (p : List ℕ) → start_of (scanned_directory lim p) ≤ lim + 1
unfolding scanned_directory directory_from start_of
scanned-start lim p = go (leb 4 (best_scan lim p lim).live) (best-start lim p lim)
  where
    go : (t : Bool) → (best_scan lim p lim).start ≤ lim + 1 → start_of (pick t (Some (best_scan lim p lim)) None) ≤ lim + 1
    go true h = h
    go false h = omega arith

module _ (lim : ℕ) (p : List ℕ) (r : Option Scan) (d : Scan) (e : r ≡ scanned_directory lim p) (q : r ≡ Some d) where
  pub directory-start : (d.start ≤ lim + 1) × (d.start ≤ length p + 1)
  unfolding start_of
  directory-start = (rw (← ap start_of (sym e ∙ q)) (scanned-start lim p), go (leb (length p) lim) refl)
    where
      go : (b : Bool) → leb (length p) lim ≡ b → d.start ≤ length p + 1
      go true h = rw (← ap start_of (scanned-past lim p (leb-true (length p) lim h) ∙ sym e ∙ q)) (scanned-start (length p) p)
      go false h =
          let l : lim < length p = leb-false (length p) lim h in
          let s : d.start ≤ lim + 1 = rw (← ap start_of (sym e ∙ q)) (scanned-start lim p) in
          omega arith

-- n and 0 before the array, by the tests in their order
module _ (p : List ℕ) (start n back : ℕ) where
  pub back-short : start < back + 2 → false ≡ counted_back p start n back
  unfolding counted_back
  back-short h = rw (lt-leb (back + 2) start h) refl

  pub back_is : (r : Bool) → back + 2 ≤ start → r ≡ (eqb (byte_at p (start - back)) n && eqb (byte_at p (start - back + 1)) 0) → r ≡ counted_back p start n back
  unfolding counted_back
  back_is r h e = rw (le-leb (back + 2) start h) e

-- the pair that is looked for before the scan: one more position
module _ (a b : ℕ) (p : List ℕ) where
  pub pair-none : false ≡ has_pair a b p 0
  unfolding has_pair
  pair-none = refl

  pub pair-more : (i x y : ℕ) (h r : Bool) → r ≡ has_pair a b p i → x ≡ byte_at p i → y ≡ byte_at p (i + 1) → h ≡ (eqb x a && eqb y b) → (r || h) ≡ has_pair a b p (i + 1)
  unfolding has_pair
  pair-more i x y h r e ex ey eh = rw (add-one, eh, ex, ey, e) refl

  pub pair-to : (i k : ℕ) (r : Bool) → i ≡ k → r ≡ has_pair a b p i → r ≡ has_pair a b p k
  pair-to i k r e q = q ∙ ap (has_pair a b p) e

  -- no pair, so none at a position
  pub not_there : (n : ℕ) → has_pair a b p n ≡ false → (i : ℕ) → i < n → (eqb (byte_at p i) a && eqb (byte_at p (i + 1)) b) ≡ false
  unfolding has_pair
  not_there zero e i h = absurd (not-suc-le-zero h)
  not_there (suc n) e i h = ⊎_elim (λ k. rw k (or-no-right (has_pair a b p n) _ e)) (λ k. not_there n (or-no-left (has_pair a b p n) _ e) i k) (eq-or-lt_of_le (le_of_suc-le-suc h))

-- a byte of a part of the bytes, less bv
pub part_at : (bv : ℕ) (xs : List ℕ) (at k i : ℕ) → i < k → at + k ≤ length xs → byte_at (plain_of bv (take k (drop at xs))) i ≡ byte_at (plain_of bv xs) (at + i)
part_at bv xs at k i h l =
    let n : length (take k (drop at xs)) ≡ k = length-take-le k (drop at xs) (omega (arith, length-drop at xs)) in
    plain_at bv (take k (drop at xs)) i (omega arith)
    ∙ ap (λ (b : ℕ). less b bv) (get_or-take k (drop at xs) i 0 h ∙ get_or-drop at xs i 0)
    ∙ sym (plain_at bv xs (at + i) (omega arith))

-- the neighbour of a byte, from the part that starts at the second
pub next-at : (bv : ℕ) (xs : List ℕ) (k i x : ℕ) → k ≡ length xs - 1 → i < k → x ≡ less (byte_at (take k (drop 1 xs)) i) bv → x ≡ byte_at (plain_of bv xs) (i + 1)
next-at bv xs k i x e h q =
    let n : length (take k (drop 1 xs)) ≡ k = length-take-le k (drop 1 xs) (omega (arith, length-drop 1 xs)) in
    let f : 1 + i ≡ i + 1 = omega arith in
    q ∙ sym (plain_at bv (take k (drop 1 xs)) i (omega arith)) ∙ part_at bv xs 1 k i h (omega arith) ∙ ap (byte_at (plain_of bv xs)) f

-- the row-count test, by the tests in their order
module _ (lim : ℕ) (p : List ℕ) (n t : ℕ) where
  pub few-rows : n < t → false ≡ row_count_matches lim p n t
  unfolding row_count_matches
  few-rows h = rw (lt-leb t n h) refl

  module _ (h : t ≤ n) (r : Option Scan) (e : r ≡ scanned_directory lim p) where
    pub no-directory : r ≡ None → false ≡ row_count_matches lim p n t
    unfolding row_count_matches counted
    no-directory q = rw (← e, q, le-leb t n h) refl

    module _ (d : Scan) (q : r ≡ Some d) where
      either-back : row_count_matches lim p n t ≡ (counted_back p d.start n 6 || counted_back p d.start n 4)
      unfolding row_count_matches counted
      either-back = rw (← e, q, le-leb t n h) refl

      pub six-back : counted_back p d.start n 6 ≡ true → true ≡ row_count_matches lim p n t
      six-back b = rw (either-back, b) refl

      pub four-back : (x : Bool) → counted_back p d.start n 6 ≡ false → x ≡ counted_back p d.start n 4 → x ≡ row_count_matches lim p n t
      four-back x b f = rw (either-back, b) f

-- a limit past the bytes is their end
pub matches-min : (lim bv : ℕ) (xs p : List ℕ) (k n t : ℕ) (r : Bool) → p ≡ plain_of bv xs → k ≡ min lim (length xs) → r ≡ row_count_matches k p n t → r ≡ row_count_matches lim (plain_of bv xs) n t
unfolding row_count_matches
matches-min lim bv xs p k n t r e m q =
    q ∙ ap (λ (l : List ℕ). row_count_matches k l n t) e ∙ ap (λ (d : Option Scan). leb t n && counted (plain_of bv xs) n d) (scanned_min lim bv xs k _ m refl)

-- the test of a whole page
module _ (lim : ℕ) (p : List ℕ) (t : ℕ) where
  pub page-short : (length p ≡ 4096 → ⊥) → false ≡ page_matches lim p t
  unfolding page_matches
  page-short h = rw (ne_eqb (length p) 4096 h) refl

  pub page-out : length p ≡ 4096 → limit_fits lim ≡ false → false ≡ page_matches lim p t
  unfolding page_matches
  page-out h f = rw (eq-eqb (length p) 4096 h, f)

  pub page-tested :
      (n : ℕ) (r : Bool)
      → length p ≡ 4096
      → limit_fits lim ≡ true
      → n ≡ byte_at p 0xFF0
      → r ≡ row_count_matches lim p n t
      → r ≡ page_matches lim p t
  unfolding page_matches
  page-tested n r h f e q = rw (eq-eqb (length p) 4096 h, f, ← e) q
