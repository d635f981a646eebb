-- A plain page is the case bv = 0; and the scan reads nothing past its limit, so that a page's data and trailer answer what the data
-- alone answers. Assumes nothing.
use Rattle.std.proofs.Common.{Option, Some, None, ◌≡◌, ℕ, zero, suc, ◌+◌, ◌-◌, ◌<◌, ◌≤◌, Bool, true, false, ◌&&◌, ◌||◌, eqb, ltb, leb, List, ◌++◌, length, get_or, drop, refl, ap, ◌∙◌, arith, ext_get_or, ltb-true, leb-true}
use lib.ListN.{get_or-append}
use lib.Seq.{take-append-le}
use Rattle.lists.specs.Cases.{pick}
use Rattle.lists.specs.Bytes.{less, plain_of, byte_at, pair_at}
use Rattle.lists.proofs.Plain.{plain-length, plain_at}
use Rattle.slots.specs.Slots.{is_offset, words, words_from, opening, slots_at, trim, live_of, array_start_of, scan_at, scan_from, stronger, best_scan, directory_from, scanned_directory, counted_back, counted, row_count_matches}
use Rattle.slots.specs.declared.scans.Scan.{Scan}
use Rattle.slots.proofs.RowCounts.{directory-start}

-- a plain page is its own plaintext at bv = 0
pub plain-zero : (xs : List ℕ) → ((i : ℕ) → i < length xs → get_or xs i 0 < 256) → plain_of 0 xs ≡ xs
plain-zero xs h =
    ext_get_or 0 (plain_of 0 xs) xs (plain-length 0 xs)
    (λ i l. let k : i < length xs = rw plain-length at l in let b : get_or xs i 0 < 256 = h i k in plain_at 0 xs i k ∙ small (get_or xs i 0) b)
  where
    small : (b : ℕ) → b < 256 → less b 0 ≡ b
    small b h = omega arith

-- the data a and the trailer b
module _ (a b : List ℕ) where
  pair-data : (i : ℕ) → i + 1 < length a → pair_at (a ++ b) i ≡ pair_at a i
  pair-data i h =
      let x : get_or (a ++ b) i 0 ≡ get_or a i 0 = get_or-append a b 0 i (omega arith) in
      let y : get_or (a ++ b) (i + 1) 0 ≡ get_or a (i + 1) 0 = get_or-append a b 0 (i + 1) h in
      omega arith

  slots-data : (lim at : ℕ) → lim ≤ length a → slots_at lim (a ++ b) at ≡ slots_at lim a at
  unfolding slots_at words_from
  slots-data lim at le = ap (λ (l : List ℕ). opening (words (drop at l))) (take-append-le lim a b le)

  start-data : (lim s : ℕ) → lim ≤ length a → array_start_of lim (a ++ b) s ≡ array_start_of lim a s
  unfolding array_start_of
  start-data lim s le = go (ltb (s + 3) lim) refl
    where
      go : (t : Bool) → ltb (s + 3) lim ≡ t → pick (t && (eqb (pair_at (a ++ b) s) 0 && is_offset (pair_at (a ++ b) (s + 2)))) (s + 2) s ≡ pick (t && (eqb (pair_at a s) 0 && is_offset (pair_at a (s + 2)))) (s + 2) s
      go true q =
          let h : s + 3 < lim = ltb-true (s + 3) lim q in
          let x : pair_at (a ++ b) s ≡ pair_at a s = pair-data s (omega arith) in
          let y : pair_at (a ++ b) (s + 2) ≡ pair_at a (s + 2) = pair-data (s + 2) (omega arith) in
          ap (λ (k : ℕ). pick (eqb k 0 && is_offset (pair_at (a ++ b) (s + 2))) (s + 2) s) x ∙ ap (λ (k : ℕ). pick (eqb (pair_at a s) 0 && is_offset k) (s + 2) s) y
      go false q = refl

  scan-data : (lim s : ℕ) → lim ≤ length a → scan_from lim (a ++ b) s ≡ scan_from lim a s
  unfolding scan_from
  scan-data lim s le =
      ap (scan_at lim (a ++ b)) (start-data lim s le)
      ∙ ap (λ (l : List ℕ). record { start = array_start_of lim a s; slots = length (trim l); live = live_of l }) (slots-data lim (array_start_of lim a s) le)

  best-data : (lim n : ℕ) → lim ≤ length a → best_scan lim (a ++ b) n ≡ best_scan lim a n
  unfolding best_scan
  best-data lim zero le = refl
  best-data lim (suc n) le = ap (λ (x : Scan). stronger x (scan_from lim (a ++ b) n)) (best-data lim n le) ∙ ap (stronger (best_scan lim a n)) (scan-data lim n le)

  pub scanned-data : (lim : ℕ) → lim ≤ length a → scanned_directory lim (a ++ b) ≡ scanned_directory lim a
  unfolding scanned_directory
  scanned-data lim le = ap directory_from (best-data lim lim le)

  back-data : (start n back : ℕ) → start ≤ length a + 1 → 4 ≤ back → counted_back (a ++ b) start n back ≡ counted_back a start n back
  unfolding counted_back
  back-data start n back h k = go (leb (back + 2) start) refl
    where
      go : (t : Bool) → leb (back + 2) start ≡ t → (t && (eqb (byte_at (a ++ b) (start - back)) n && eqb (byte_at (a ++ b) (start - back + 1)) 0)) ≡ (t && (eqb (byte_at a (start - back)) n && eqb (byte_at a (start - back + 1)) 0))
      go true q =
          let l : back + 2 ≤ start = leb-true (back + 2) start q in
          let x : get_or (a ++ b) (start - back) 0 ≡ get_or a (start - back) 0 = get_or-append a b 0 (start - back) (omega arith) in
          let y : get_or (a ++ b) (start - back + 1) 0 ≡ get_or a (start - back + 1) 0 = get_or-append a b 0 (start - back + 1) (omega arith) in
          ap (λ (v : ℕ). eqb v n && eqb (get_or (a ++ b) (start - back + 1) 0) 0) x ∙ ap (λ (v : ℕ). eqb (get_or a (start - back) 0) n && eqb v 0) y
      go false q = refl

  pub matches-data : (lim n t : ℕ) → lim ≤ length a → row_count_matches lim (a ++ b) n t ≡ row_count_matches lim a n t
  unfolding row_count_matches counted
  matches-data lim n t le = ap (λ (r : Option Scan). leb t n && counted (a ++ b) n r) (scanned-data lim le) ∙ ap (λ (x : Bool). leb t n && x) (same (scanned_directory lim a) refl)
    where
      same : (r : Option Scan) → r ≡ scanned_directory lim a → counted (a ++ b) n r ≡ counted a n r
      same None q = refl
      same (Some d) q =
          let h : d.start ≤ length a + 1 = (directory-start lim a (Some d) d q refl).1 in
          let x : counted_back (a ++ b) d.start n 6 ≡ counted_back a d.start n 6 = back-data d.start n 6 h (omega arith) in
          let y : counted_back (a ++ b) d.start n 4 ≡ counted_back a d.start n 4 = back-data d.start n 4 h (omega arith) in
          ap (λ (v : Bool). v || counted_back (a ++ b) d.start n 4) x ∙ ap (λ (v : Bool). counted_back a d.start n 6 || v) y
