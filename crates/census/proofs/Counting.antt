-- The other sectors one after the other, each counted by its quarters. Assumes nothing.
use Prim.Native.Nat.{ℕ, ◌+◌, ◌-◌, ◌*◌, ◌%◌, ◌≤◌, ◌<◌}
use mathlib.Core.Path.{◌≡◌, refl, sym, ap, ◌∙◌}
use mathlib.Core.Bool.{true, false}
use mathlib.Core.List.{List, [], ◌∷◌, ◌++◌}
use native.Mathlib.Decide.{ℕ_discrete}
use native.Mathlib.Numerals.{add-one}
use native.Mathlib.Omega.{arith}
use lib.ListN.{length, get_or, take, drop, length-take, length-drop, length-set}
use lib.Seq.{take-suc, take_all, get_or-drop, drop-drop, get_or-set_same, get_or-set_other}
use Rattle.lists.specs.Bytes.{byte_at}
use Rattle.lists.specs.Counts.{count, sum}
use Rattle.lists.proofs.Picks.{pick-case}
use Rattle.lists.proofs.Count.{count_none, count-le, count-halves, count-last-same, count-last-other}
use Rattle.sector.specs.declared.fits.Fit.{Fit}
use Rattle.summary.specs.Page.{sector_end, part}
use Rattle.census.specs.Told.{told_exact, other_count}
use Rattle.census.specs.declared.quarters.Quarters.{Quarters}
use Rattle.census.specs.Tables.{held, with_one, Added}
use Rattle.census.proofs.Noted.{sum_more, sum-few}

-- ---- one byte more in a table

pub added_none : (bytes : List ℕ) (start : ℕ) (table : List ℕ) → length table ≡ 256 → Added bytes start 0 table table
added_none bytes start table e = record { long = e; at = λ v h. omega (arith, count_none v) }

pub added_more :
    (bytes : List ℕ) (start n : ℕ) (before after : List ℕ) {x : ℕ} {table : List ℕ}
    → Added bytes start n before after
    → table ≡ with_one after x
    → x ≡ get_or bytes (n + start) 0
    → x < 256
    → n + start < length bytes
    → Added bytes start (n + 1) before table
added_more bytes start n before after {x} {table} t one e k h =
    record { long = ap length one ∙ length-set after x ((get_or after x 0 + 1) % 65536) ∙ t.long; at = λ v q. go v q (ℕ_discrete v x) }
  where
    more : take (n + 1) (drop start bytes) ≡ take n (drop start bytes) ++ (x ∷ [])
    more =
        ap (λ (i : ℕ). take i (drop start bytes)) (add-one n)
        ∙ take-suc (drop start bytes) n 0 (omega (arith, length-drop start bytes))
        ∙ ap (λ (y : ℕ). take n (drop start bytes) ++ (y ∷ [])) (get_or-drop start bytes n 0 ∙ ap (λ (i : ℕ). get_or bytes i 0) (omega arith) ∙ sym e)

    go :
        (v : ℕ)
        → v < 256
        → Dec (v ≡ x)
        → get_or table v 0 % 65536 ≡ (byte_at before v + count v (take (n + 1) (drop start bytes))) % 65536
    go v q (yes p) =
        let here : get_or table v 0 ≡ (get_or after v 0 + 1) % 65536 =
        ap (λ (l : List ℕ). get_or l v 0) one
        ∙ ap (λ (i : ℕ). get_or (with_one after x) i 0) p
        ∙ get_or-set_same after x ((get_or after x 0 + 1) % 65536) 0 (omega (arith, t.long))
        ∙ ap (λ (i : ℕ). (get_or after i 0 + 1) % 65536) (sym p) in
        omega (arith, here, t.at v q, ap (count v) more, count-last-same v (take n (drop start bytes)) x p)
    go v q (no ne) =
        let there : get_or table v 0 ≡ get_or after v 0 =
        ap (λ (l : List ℕ). get_or l v 0) one ∙ get_or-set_other after x v ((get_or after x 0 + 1) % 65536) 0 ne in
        omega (arith, there, t.at v q, ap (count v) more, count-last-other v (take n (drop start bytes)) x ne)

-- the same of the bytes from `start` up to k
module _ (bytes : List ℕ) (start : ℕ) where
  pub past_none : (table : List ℕ) → length table ≡ 256 → Added bytes start (start - start) table table
  past_none table e = record { long = e; at = λ v h. omega (arith, ap (λ (n : ℕ). count v (take n (drop start bytes))) none, count_none v) }
    where
      none : start - start ≡ 0
      none = omega arith

  pub past_more :
      (k : ℕ) (before after : List ℕ) {x : ℕ} {table : List ℕ}
      → start ≤ k
      → Added bytes start (k - start) before after
      → table ≡ with_one after x
      → x ≡ get_or bytes k 0
      → x < 256
      → k < length bytes
      → Added bytes start (k + 1 - start) before table
  past_more k before after s t one e b h =
      let here : k - start + start ≡ k = omega (arith, s) in
      let next : k - start + 1 ≡ k + 1 - start = omega (arith, s) in
      rw (← next) (added_more bytes start (k - start) before after t one (e ∙ sym (ap (λ (i : ℕ). get_or bytes i 0) here)) b (omega (arith, s, h)))

-- ---- a value's count is the sum of its counts in the quarters

module _ (v : ℕ) where
  rest : (l : List ℕ) (a b : ℕ) → count v (drop a l) ≡ count v (take b (drop a l)) + count v (drop (a + b) l)
  rest l a b = count-halves v b (drop a l) ∙ ap (λ (x : List ℕ). count v (take b (drop a l)) + count v x) (drop-drop b a l)

  count-quarters :
      (q : ℕ) (l : List ℕ)
      → count v l
      ≡ count v (take q l) + count v (take q (drop q l)) + (count v (take q (drop (2 * q) l)) + count v (take q (drop (3 * q) l)))
      + count v (drop (4 * q) l)
  count-quarters q l =
      let two : q + q ≡ 2 * q = omega arith in
      let three : 2 * q + q ≡ 3 * q = omega arith in
      let four : 3 * q + q ≡ 4 * q = omega arith in
      omega (
        arith,
        count-halves v q l,
        rest l q q,
        ap (λ (n : ℕ). count v (drop n l)) two,
        rest l (2 * q) q,
        ap (λ (n : ℕ). count v (drop n l)) three,
        rest l (3 * q) q,
        ap (λ (n : ℕ). count v (drop n l)) four,
      )

-- n bytes of each quarter, and m behind the four
pub quarters-count :
    (bytes : List ℕ) (q : ℕ) {n m : ℕ} {t u w : Quarters}
    → n ≡ q
    → m ≡ length bytes - 4 * q
    → Added bytes 0 n t.a u.a × Added bytes q n t.b u.b × Added bytes (2 * q) n t.c u.c × Added bytes (3 * q) n t.d u.d
    → w.a ≡ u.a
    → w.b ≡ u.b
    → w.c ≡ u.c
    → Added bytes (4 * q) m u.d w.d
    → (v : ℕ)
    → v < 256
    → held w v % 65536 ≡ (held t v + count v bytes) % 65536
quarters-count bytes q {n} {m} {t} {u} {w} whole left added a b c last v h =
    let at : (start : ℕ) → count v (take n (drop start bytes)) ≡ count v (take q (drop start bytes)) =
    λ start. ap (λ (n : ℕ). count v (take n (drop start bytes))) whole in
    let rest : take m (drop (4 * q) bytes) ≡ drop (4 * q) bytes = take_all m (drop (4 * q) bytes) (omega (arith, left, length-drop (4 * q) bytes)) in
    omega (
      arith,
      count-quarters v q bytes,
      added.0.at v h,
      added.1.at v h,
      added.2.at v h,
      added.3.at v h,
      at 0,
      at q,
      at (2 * q),
      at (3 * q),
      ap (λ (l : List ℕ). byte_at l v) a,
      ap (λ (l : List ℕ). byte_at l v) b,
      ap (λ (l : List ℕ). byte_at l v) c,
      last.at v h,
      ap (count v) rest,
    )

-- ---- the bytes of a sector as the code takes them

pub sector-long : (l : List ℕ) (s e : ℕ) → length l ≡ 4080 → s < 8 → e ≡ sector_end s → length (take (e - s * 512) (drop (s * 512) l)) ≡ e - s * 512
sector-long l s e h k q = simp (length-take, length-drop) (omega arith)

pub part_of : (l : List ℕ) (s e : ℕ) → e ≡ sector_end s → take (e - s * 512) (drop (s * 512) l) ≡ part s l
unfolding part
part_of l s e q = ap (λ (n : ℕ). take (n - s * 512) (drop (s * 512) l)) q

-- ---- sector after sector

module _ (fits : List Fit) (shifted : List ℕ) where
  other-le : (v s : ℕ) → other_count fits shifted v s ≤ 512
  unfolding other_count part
  other-le v s =
      pick-case (λ (n : ℕ). n ≤ 512) (told_exact fits s) 0 (count v (take (sector_end s - s * 512) (drop (s * 512) shifted)))
      (λ _. omega arith)
      (λ _.
      omega
      (arith, count-le v (take (sector_end s - s * 512) (drop (s * 512) shifted)), length-take (sector_end s - s * 512) (drop (s * 512) shifted)))

  other_none : (v s : ℕ) → told_exact fits s ≡ true → other_count fits shifted v s ≡ 0
  unfolding other_count
  other_none v s t = rw t

  other-here : (v s : ℕ) → told_exact fits s ≡ false → other_count fits shifted v s ≡ count v (part s shifted)
  unfolding other_count
  other-here v s t = rw t

  -- those of no sector, and of one more
  pub others-none : (v : ℕ) → sum (other_count fits shifted v) 0 ≡ 0
  unfolding sum
  others-none v = refl

  pub others_no : (v s : ℕ) → told_exact fits s ≡ true → sum (other_count fits shifted v) (s + 1) ≡ sum (other_count fits shifted v) s
  others_no v s e = omega (arith, sum_more (other_count fits shifted v) s, other_none v s e)

  pub others-yes : (v s : ℕ) → told_exact fits s ≡ false → sum (other_count fits shifted v) (s + 1) ≡ sum (other_count fits shifted v) s + count v (part s shifted)
  others-yes v s e = omega (arith, sum_more (other_count fits shifted v) s, other-here v s e)

  pub others-le : (v s : ℕ) → sum (other_count fits shifted v) s ≤ s * 512
  others-le v s = sum-few (other_count fits shifted v) s (other-le v)
