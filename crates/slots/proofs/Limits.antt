-- A limit past the end of the bytes is the end: the scan reads nothing there. Assumes nothing.
use Rattle.std.proofs.Common.{Option, ◌≡◌, ℕ, zero, suc, ◌+◌, ◌-◌, ◌<◌, ◌≤◌, min, Bool, true, false, eqb, ltb, leb, List, [], ◌∷◌, length, take, drop, sym, refl, ap, ◌∙◌, le_of_suc-le-suc, not-suc-le-zero, add-zero, add-suc, arith, ltb-false, ltb-true, eqb-true, leb-false, leb-true}
use borrow.Author.Tests.{eqb-false}
use Rattle.lists.specs.Bytes.{plain_of, pair_at}
use Rattle.lists.proofs.Plain.{plain-length}
use Rattle.slots.specs.Slots.{is_offset, words, words_from, opening, slots_at, trim, live_of, array_start_of, scan_at, scan_from, stronger, best_scan, directory_from, scanned_directory}
use Rattle.slots.specs.Sweep.{empty_scan}
use Rattle.slots.specs.declared.scans.Scan.{Scan}
use Rattle.slots.proofs.Words.{words-here, words-past}
use Rattle.slots.proofs.Scanned.{start-near, start-live, start-skips, start-stays, strong-empty}
use Rattle.slots.proofs.Sweeps.{scan-empty, slots_end}

take_past : (l : List ℕ) (n : ℕ) → length l ≤ n → take n l ≡ l
take_past [] zero h = refl
take_past [] (suc n) h = refl
take_past (x ∷ l) zero h = absurd (not-suc-le-zero h)
take_past (x ∷ l) (suc n) h = ap (λ (k : List ℕ). x ∷ k) (take_past l n (le_of_suc-le-suc h))

module _ (lim : ℕ) (p : List ℕ) (past : length p ≤ lim) where
  pub slots-within : (at : ℕ) → slots_at lim p at ≡ slots_at (length p) p at
  unfolding slots_at words_from
  slots-within at =
      let e : take lim p ≡ take (length p) p = take_past p lim past ∙ sym (take_past p (length p) (omega arith)) in
      ap (λ (l : List ℕ). opening (words (drop at l))) e

  -- a scan that has no slot
  Empty : Scan → Type 0
  Empty c = (c.live ≡ 0) × (c.slots ≡ 0)

  empty-past : (at : ℕ) → length p ≤ at + 1 → Empty (scan_at lim p at)
  unfolding Empty slots_at opening trim live_of
  empty-past at h = rw (words-past lim p at h) (refl, refl)

  no-slots : (s : ℕ) → pair_at p s ≡ 0 → (b : Bool) → leb (length p) (s + 1) ≡ b → slots_at (length p) p s ≡ []
  unfolding slots_at opening is_offset
  no-slots s z true q = slots_end (length p) p s (leb-true (length p) (s + 1) q)
  no-slots s z false q = rw (words-here (length p) p s (omega arith) 0 (leb-false (length p) (s + 1) q) (sym z)) refl

  empty-zero : (s : ℕ) → length p ≤ s + 3 → pair_at p s ≡ 0 → Empty (scan_from (length p) p s)
  unfolding Empty
  empty-zero s h z =
      let e : scan_from (length p) p s ≡ empty_scan s = scan-empty (length p) p s (start-near (length p) p s h) (no-slots s z (leb (length p) (s + 1)) refl) in
      (ap (λ (x : Scan). x.live) e, ap (λ (x : Scan). x.slots) e)

  -- the scan from s may differ in its start, and only where it has no slot
  module _ (b : Scan) (s : ℕ) where
    same : (at : ℕ) → at ≡ array_start_of lim p s → at ≡ array_start_of (length p) p s → stronger b (scan_from lim p s) ≡ stronger b (scan_from (length p) p s)
    unfolding scan_from
    same at e f =
        ap (stronger b)
        (ap (scan_at lim p) (sym e) ∙ ap (λ (l : List ℕ). record { start = at; slots = length (trim l); live = live_of l }) (slots-within at) ∙ ap (scan_at (length p) p) f)

    none : Empty (scan_at lim p (s + 2)) → s + 2 ≡ array_start_of lim p s → Empty (scan_from (length p) p s) → stronger b (scan_from lim p s) ≡ stronger b (scan_from (length p) p s)
    unfolding scan_from Empty
    none h e k =
        ap (λ (at : ℕ). stronger b (scan_at lim p at)) (sym e) ∙ strong-empty b (scan_at lim p (s + 2)) h.0 h.1 ∙ sym (strong-empty b (scan_from (length p) p s) k.0 k.1)

    strong-within : stronger b (scan_from lim p s) ≡ stronger b (scan_from (length p) p s)
    strong-within = go (ltb (s + 3) (length p)) refl (ltb (s + 3) lim) refl (eqb (pair_at p s) 0) refl (is_offset (pair_at p (s + 2))) refl
      where
        go : (x : Bool) → ltb (s + 3) (length p) ≡ x → (y : Bool) → ltb (s + 3) lim ≡ y → (z : Bool) → eqb (pair_at p s) 0 ≡ z → (o : Bool) → is_offset (pair_at p (s + 2)) ≡ o → stronger b (scan_from lim p s) ≡ stronger b (scan_from (length p) p s)
        go x qx y qy false qz o qo = same s (start-live lim p s (pair_at p s) refl (eqb-false (pair_at p s) 0 qz)) (start-live (length p) p s (pair_at p s) refl (eqb-false (pair_at p s) 0 qz))
        go true qx y qy true qz true qo =
            let h : s + 3 < length p = ltb-true (s + 3) (length p) qx in
            same (s + 2) (start-skips lim p s (pair_at p s) (pair_at p (s + 2)) (omega arith) refl (eqb-true (pair_at p s) 0 qz) refl qo)
            (start-skips (length p) p s (pair_at p s) (pair_at p (s + 2)) h refl (eqb-true (pair_at p s) 0 qz) refl qo)
        go true qx y qy true qz false qo =
            let h : s + 3 < length p = ltb-true (s + 3) (length p) qx in
            same s (start-stays lim p s (pair_at p s) (pair_at p (s + 2)) (omega arith) refl (eqb-true (pair_at p s) 0 qz) refl qo)
            (start-stays (length p) p s (pair_at p s) (pair_at p (s + 2)) h refl (eqb-true (pair_at p s) 0 qz) refl qo)
        go false qx false qy true qz o qo =
            same s (start-near lim p s (ltb-false (s + 3) lim qy)) (start-near (length p) p s (ltb-false (s + 3) (length p) qx))
        go false qx true qy true qz false qo =
            same s (start-stays lim p s (pair_at p s) (pair_at p (s + 2)) (ltb-true (s + 3) lim qy) refl (eqb-true (pair_at p s) 0 qz) refl qo)
            (start-near (length p) p s (ltb-false (s + 3) (length p) qx))
        go false qx true qy true qz true qo =
            let h : length p ≤ s + 3 = ltb-false (s + 3) (length p) qx in
            none (empty-past (s + 2) (omega arith)) (start-skips lim p s (pair_at p s) (pair_at p (s + 2)) (ltb-true (s + 3) lim qy) refl (eqb-true (pair_at p s) 0 qz) refl qo)
            (empty-zero s h (eqb-true (pair_at p s) 0 qz))

  best-within : (n : ℕ) → best_scan lim p n ≡ best_scan (length p) p n
  unfolding best_scan
  best-within zero = refl
  best-within (suc n) = ap (λ (x : Scan). stronger x (scan_from lim p n)) (best-within n) ∙ strong-within (best_scan (length p) p n) n

-- no start past the limit counts
best-past : (lim : ℕ) (p : List ℕ) (more : ℕ) → best_scan lim p (lim + more) ≡ best_scan lim p lim
unfolding best_scan
best-past lim p zero = rw add-zero refl
best-past lim p (suc more) =
    let e : scan_from lim p (lim + more) ≡ empty_scan (lim + more) = scan-empty lim p (lim + more) (start-near lim p (lim + more) (omega arith)) (slots_end lim p (lim + more) (omega arith)) in
    rw add-suc (strong-empty (best_scan lim p (lim + more)) (scan_from lim p (lim + more)) (ap (λ (x : Scan). x.live) e) (ap (λ (x : Scan). x.slots) e) ∙ best-past lim p more)

pub scanned-past : (lim : ℕ) (p : List ℕ) → length p ≤ lim → scanned_directory (length p) p ≡ scanned_directory lim p
unfolding scanned_directory
scanned-past lim p h =
    let e : length p + (lim - length p) ≡ lim = omega arith in
    ap directory_from (sym (best-past (length p) p (lim - length p)) ∙ ap (best_scan (length p) p) e ∙ sym (best-within lim p h lim))

pub scanned_min : (lim bv : ℕ) (xs : List ℕ) (k : ℕ) (r : Option Scan) → k ≡ min lim (length xs) → r ≡ scanned_directory k (plain_of bv xs) → r ≡ scanned_directory lim (plain_of bv xs)
scanned_min lim bv xs k r m e = go (leb (length xs) lim) refl
  where
    p : List ℕ
    p = plain_of bv xs

    n : length p ≡ length xs
    n = plain-length bv xs

    go : (b : Bool) → leb (length xs) lim ≡ b → r ≡ scanned_directory lim p
    go true q =
        let h : length xs ≤ lim = leb-true (length xs) lim q in
        let f : k ≡ length p = omega (arith, n) in
        e ∙ ap (λ (j : ℕ). scanned_directory j p) f ∙ scanned-past lim p (omega (arith, n))
    go false q =
        let h : lim < length xs = leb-false (length xs) lim q in
        let f : k ≡ lim = omega arith in
        e ∙ ap (λ (j : ℕ). scanned_directory j p) f
