-- What the rows come to: they follow one another without a gap up to 0xFF0; the far end lists each kept offset once, ascending. Assumes nothing.
use Prim.Native.Nat.{ℕ, zero, suc, ◌+◌, ◌*◌, ◌≤◌, ◌<◌}
use Rattle.std.proofs.Common.{Option, Some, None}
use mathlib.Core.Path.{◌≡◌, refl, sym, ap, ◌∙◌, subst}
use mathlib.Core.List.{List, [], ◌∷◌}
use mathlib.Core.Bool.{Bool}
use native.Mathlib.Omega.{arith}
use native.Mathlib.Nat.{not-suc-le-zero}
use lib.Dec.{eqb, leb}
use lib.ListN.{length}
use lib.Seq.{take_all}
use Rattle.lists.specs.Cases.{flag}
use Rattle.lists.specs.Bytes.{byte_at, pair_at}
use Rattle.lists.specs.Counts.{count}
use Rattle.lists.specs.Pieces.{keep, over}
use Rattle.lists.proofs.Each.{each-length}
use Rattle.lists.proofs.Keep.{keep-le}
use Rattle.lists.proofs.Sorting.{insert-count}
use Rattle.directory.specs.Directory.{slots_of}
use Rattle.directory.specs.Decisions.{listed_of, decision_of}
use Rattle.directory.specs.declared.verdicts.Listed.{Listed}
use Rattle.directory.proofs.Decisions.{HoldsOf, decided-sound}
use Rattle.slotted.proofs.Meaning.{listed-few}
use Rattle.rows.specs.Rows.{is_kept, ascending, rows_at, from_end, Lists, At, row_in, end_of}
use Rattle.rows.specs.RowAnswers.{rows_in, rows_of, row_of, starts_in}
use Rattle.rows.specs.declared.spans.Span.{Span}
use Rattle.directory.specs.Directory.{Sound}
use Rattle.rows.proofs.FarEnd.{rows_end, rows-length, Up, rows-up}
use Rattle.rows.proofs.RowAnswers.{no_rows, row_fits}

-- a row is not empty, and lies below the trailer
pub row-some : (lim : ℕ) (plain : List ℕ) (lenient : Bool) (r o e : ℕ) → row_of lim plain lenient r ≡ At o e → (o < e) × (e ≤ 0xFF0)
row-some lim plain lenient r o e q = let f = row_fits lim plain lenient r o e q in (f.0, f.1)

-- the next row starts where a row ends; the last ends at 0xFF0
pub Next : ℕ → Option Span → Type 0
Next e (Some s) = s.offset ≡ e
Next e None = e ≡ 0xFF0

next-in : (r : ℕ) (l : List ℕ) (o e : ℕ) → row_in r l ≡ At o e → Next e (row_in (suc r) l)
unfolding row_in Next
next-in zero [] o e q = let z : ◌≡◌ {A = ℕ} 0 1 = cc in absurd (omega arith)
next-in zero (x ∷ []) o e q = sym (ap end_of q)
next-in zero (x ∷ y ∷ l) o e q = ap end_of q
next-in (suc r) [] o e q = let z : ◌≡◌ {A = ℕ} 0 1 = cc in absurd (omega arith)
next-in (suc r) (x ∷ l) o e q = next-in r l o e q

pub row_next : (lim : ℕ) (plain : List ℕ) (lenient : Bool) (r o e : ℕ) → row_of lim plain lenient r ≡ At o e → Next e (row_of lim plain lenient (suc r))
row_next lim plain lenient r o e q = next-in r (rows_of lim plain lenient) o e q

-- row r is there just where r is below the number of rows
pub row-there : (r : ℕ) (l : List ℕ) → (r < length l → row_in r l ≡ None → ⊥) × (length l ≤ r → row_in r l ≡ None)
unfolding row_in
row-there r [] = ((λ h q. omega arith), λ h. no_rows r)
row-there zero (x ∷ l) = ((λ h q. let z : ◌≡◌ {A = ℕ} 0 1 = cc in omega arith), λ h. absurd (omega arith))
row-there (suc r) (x ∷ l) = let i = row-there r l in ((λ h q. i.0 (omega arith) q), λ h. i.1 (omega arith))

-- ---- all rows

-- at most 1,024, as slots
rows-at : (plain : List ℕ) (start count : ℕ) → count ≤ 1024 → length (rows_at plain start count) ≤ 1024
rows-at plain start count h =
    let k = keep-le (is_kept start (start + 2 * count)) (slots_of plain start count) in
    omega (arith, k, rows-length plain start count, each-length (λ j. pair_at plain (start + 2 * j)) count)

rows-in-few : (plain : List ℕ) (o : Option Listed) → HoldsOf (λ start count. count ≤ 1024) o → length (rows_in plain o) ≤ 1024
rows-in-few plain None h = omega arith
rows-in-few plain (Some l) h = rows-at plain l.start l.count h

pub rows_fit : (lim : ℕ) (plain : List ℕ) (lenient : Bool) → byte_at plain 0xFF0 < 256 → length (rows_of lim plain lenient) ≤ 1024
unfolding rows_of
rows_fit lim plain lenient b = rows-in-few plain (listed_of (decision_of lim plain lenient)) (listed-few lim plain lenient b)

-- so a buffer of 1,024 holds them all
pub starts-all :
    (lim : ℕ) (plain : List ℕ) (lenient : Bool) (starts : List ℕ)
    → byte_at plain 0xFF0 < 256
    → 1024 ≤ length starts
    → starts_in (rows_of lim plain lenient) starts ≡ over starts 0 (rows_of lim plain lenient)
starts-all lim plain lenient starts b h = ap (over starts 0) (take_all (length starts) (rows_of lim plain lenient) (omega (arith, rows_fit lim plain lenient b)))

least_first : (x : ℕ) (l : List ℕ) → Up (x ∷ l) → (j : ℕ) → j < length l → x < byte_at l j
unfolding Up
least_first x [] u j h = absurd (not-suc-le-zero h)
least_first x (y ∷ l) u zero h = u.0
least_first x (y ∷ l) u (suc j) h =
    let a : x < y = u.0 in
    let b : y < byte_at l j = least_first y l u.1 j (omega arith) in
    omega arith

up-rising : (l : List ℕ) → Up l → (i j : ℕ) → i < j → j < length l → byte_at l i < byte_at l j
unfolding Up
up-rising [] u i j h k = absurd (not-suc-le-zero k)
up-rising (x ∷ l) u i zero h k = absurd (not-suc-le-zero h)
up-rising (x ∷ l) u zero (suc j) h k = least_first x l u j (omega arith)
up-rising (x ∷ l) u (suc i) (suc j) h k = up-rising l u.1 i j (omega arith) (omega arith)

ascending-count : (v : ℕ) (l : List ℕ) → count v (ascending l) ≡ count v l
unfolding ascending count
ascending-count v [] = refl
ascending-count v (x ∷ l) = insert-count leb v x (ascending l) ∙ ap (λ (n : ℕ). flag (eqb v x) + n) (ascending-count v l)

-- the rows are what is read from the directory's far end; none where no directory is listed
pub none-listed : (lim : ℕ) (plain : List ℕ) (lenient : Bool) → listed_of (decision_of lim plain lenient) ≡ None → rows_of lim plain lenient ≡ []
unfolding rows_of
none-listed lim plain lenient q = ap (rows_in plain) q

module _ (lim : ℕ) (plain : List ℕ) (lenient : Bool) (l : Listed) (q : listed_of (decision_of lim plain lenient) ≡ Some l) where
  listed-sound : Sound plain l.start l.count
  listed-sound = subst (HoldsOf (Sound plain)) q (decided-sound lim plain lenient)

  pub far-end : rows_of lim plain lenient ≡ from_end plain l.start (l.start + 2 * l.count) l.count
  unfolding rows_of
  far-end = ap (rows_in plain) q ∙ rows_end plain l.start l.count listed-sound.falls

  -- read from its far end, a directory lists the kept offsets in ascending order, each once
  pub far-end-lists :
      let stop : ℕ = l.start + 2 * l.count in
      Lists (keep (is_kept l.start stop) (slots_of plain l.start l.count)) (from_end plain l.start stop l.count)
  far-end-lists =
      let stop : ℕ = l.start + 2 * l.count in
      let kept : List ℕ = keep (is_kept l.start stop) (slots_of plain l.start l.count) in
      let falls = listed-sound.falls in
      let sorted : from_end plain l.start stop l.count ≡ ascending kept = sym (rows_end plain l.start l.count falls) ∙ unfold rows_at in refl in
      record {
        sorted = sorted;
        all = λ v. ap (count v) sorted ∙ ascending-count v kept;
        rising = up-rising (from_end plain l.start stop l.count) (subst Up (rows_end plain l.start l.count falls) (rows-up plain l.start l.count falls));
      }
