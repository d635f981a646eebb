-- The count of a value over a page is the sum over its eight parts, and an exact part counts its length at one value. So where the fits tell the truth, what
-- they make is the counts and the votes of the page. Assumes nothing.
use Prim.Native.Nat.{ℕ, zero, suc, ◌+◌, ◌-◌, ◌*◌, ◌≤◌, ◌<◌}
use mathlib.Core.Path.{◌≡◌, refl, sym, ap, ap₂, ◌∙◌}
use mathlib.Core.Bool.{Bool, true, false}
use mathlib.Core.List.{List, [], ◌∷◌, ◌++◌}
use native.Mathlib.Decide.{ℕ_discrete, dec_lt}
use native.Mathlib.Omega.{arith}
use borrow.Author.Tests.{eq-eqb, ne_eqb}
use lib.Dec.{eqb}
use lib.ListN.{length, get_or, take, drop, length-drop}
use lib.Seq.{take_all}
use Rattle.lists.specs.Cases.{pick, flag}
use Rattle.lists.specs.Bytes.{byte_at}
use Rattle.lists.specs.Counts.{count, how_many, sum, all_same}
use Rattle.lists.specs.Pieces.{each, among, joined}
use Rattle.lists.proofs.Picks.{flag-le}
use Rattle.lists.proofs.Count.{count_none, count-append, count-many}
use Rattle.lists.proofs.Each.{each_all, each-ext}
use Rattle.lists.proofs.Many.{many-le, many-zero}
use Rattle.lists.proofs.Among.{among-length}
use Rattle.lists.proofs.Same.{same_count, same_at}
use Rattle.lists.proofs.Sums.{sum_both, sum-none, sum-ext}
use Rattle.sector.specs.declared.fits.Fit.{Fit}
use Rattle.summary.specs.Page.{sector_end, part}
use Rattle.summary.specs.State.{sector_at}
use Rattle.summary.proofs.Parts.{part_length, part_at, sectors-whole}
use Rattle.census.specs.declared.pages.Tally.{Tally}
use Rattle.census.specs.Told.{told_exact, Tells, first_byte, exact_count, other_count, told_counts, told_ballots, no_tally, tally_of, tallied}
use Rattle.census.specs.Tables.{Noted, with_others}

-- ---- the parts of a page

count-joined : (v : ℕ) (f : ℕ → List ℕ) (n : ℕ) → count v (joined f n) ≡ sum (λ s. count v (f s)) n
unfolding joined sum
count-joined v f zero = count_none v
count-joined v f (suc n) = count-append v (joined f n) (f n) ∙ ap (λ (k : ℕ). k + count v (f n)) (count-joined v f n)

-- without a trailer the bytes of a sector are its data
part-sector : (l : List ℕ) (s : ℕ) → length l ≡ 4080 → sector_at s l ≡ part s l
unfolding part sector_at
part-sector l s h = go (dec_lt s 7)
  where
    go : Dec (s < 7) → take 512 (drop (s * 512) l) ≡ take (sector_end s - s * 512) (drop (s * 512) l)
    go (yes k) = let e : 512 ≡ sector_end s - s * 512 = omega arith in ap (λ (n : ℕ). take n (drop (s * 512) l)) e
    go (no k) =
        take_all 512 (drop (s * 512) l) (omega (arith, length-drop (s * 512) l))
        ∙ sym (take_all (sector_end s - s * 512) (drop (s * 512) l) (omega (arith, length-drop (s * 512) l)))

pub count-parts : (v : ℕ) (l : List ℕ) → length l ≡ 4080 → count v l ≡ sum (λ s. count v (part s l)) 8
count-parts v l h =
    ap (count v) (sectors-whole l (omega arith))
    ∙ count-joined v (λ s. sector_at s l) 8
    ∙ sum-ext (λ s. count v (sector_at s l)) (λ s. count v (part s l)) 8 (λ s k. ap (count v) (part-sector l s h))

pub exact-part :
    (v : ℕ) (l : List ℕ) (s : ℕ)
    → length l ≡ 4080
    → s < 8
    → all_same (part s l) ≡ true
    → count v (part s l) ≡ pick (eqb v (first_byte l s)) (sector_end s - s * 512) 0
exact-part v l s h k same = go (ℕ_discrete v (first_byte l s))
  where
    long : length (part s l) ≡ sector_end s - s * 512
    long = part_length l s (omega arith)

    first : get_or (part s l) 0 0 ≡ first_byte l s
    first = part_at l s 0 (omega arith) ∙ ap (λ (i : ℕ). get_or l i 0) (omega arith)

    go : Dec (v ≡ first_byte l s) → count v (part s l) ≡ pick (eqb v (first_byte l s)) (sector_end s - s * 512) 0
    go (yes e) =
        ap (λ (x : ℕ). count x (part s l)) (e ∙ sym first)
        ∙ same_count (part s l) (omega (arith, long)) same
        ∙ long
        ∙ ap (λ (b : Bool). pick b (sector_end s - s * 512) 0) (sym (eq-eqb v (first_byte l s) e))
    go (no ne) =
        count-many v (part s l)
        ∙ many-zero (λ i. eqb v (get_or (part s l) i 0)) (length (part s l))
        (λ i q. ne_eqb v (get_or (part s l) i 0) (λ e. ne (e ∙ same_at (part s l) i same q ∙ first)))
        ∙ ap (λ (b : Bool). pick b (sector_end s - s * 512) 0) (sym (ne_eqb v (first_byte l s) ne))

-- ---- where the fits tell the truth

module _ (fits : List Fit) (shifted : List ℕ) (h : length shifted ≡ 4080) (t : Tells fits shifted) where
  both-counts : (v s : ℕ) → s < 8 → exact_count fits shifted v s + other_count fits shifted v s ≡ count v (part s shifted)
  unfolding exact_count other_count
  both-counts v s k = go (told_exact fits s) refl
    where
      go :
          (b : Bool)
          → told_exact fits s ≡ b
          → pick (told_exact fits s) (pick (eqb v (first_byte shifted s)) (sector_end s - s * 512) 0) 0 + pick (told_exact fits s) 0 (count v (part s shifted))
          ≡ count v (part s shifted)
      go true e = rw e (omega (arith, exact-part v shifted s h k (sym (t.exact s k) ∙ e)))
      go false e = rw e (omega arith)

  pub told-counts : told_counts fits shifted ≡ each (λ v. count v shifted) 256
  unfolding told_counts
  told-counts =
      each-ext (λ v. sum (exact_count fits shifted v) 8 + sum (other_count fits shifted v) 8) (λ v. count v shifted) 256
      (λ v _.
      sym (sum_both (exact_count fits shifted v) (other_count fits shifted v) 8)
      ∙ sum-ext (λ s. exact_count fits shifted v s + other_count fits shifted v s) (λ s. count v (part s shifted)) 8 (both-counts v)
      ∙ sym (count-parts v shifted h))

among_same : {A : Type 0} (p q : ℕ → Bool) (f : ℕ → A) (n : ℕ) → ((k : ℕ) → k < n → p k ≡ q k) → among p f n ≡ among q f n
unfolding among
among_same p q f zero e = refl
among_same p q f (suc n) e =
    ap₂ (λ (x : List _) (b : Bool). x ++ pick b (f n ∷ []) []) (among_same p q f n (λ k h. e k (omega arith))) (e n (omega arith))

pub told-ballots :
    (fits : List Fit) (shifted : List ℕ)
    → Tells fits shifted
    → told_ballots fits shifted ≡ among (λ s. all_same (part s shifted)) (λ s. byte_at shifted (s * 512)) 8
unfolding told_ballots
told-ballots fits shifted t = among_same (told_exact fits) (λ s. all_same (part s shifted)) (first_byte shifted) 8 t.exact

-- ---- the tally

pub tallied-not : (fits : List Fit) (shifted : List ℕ) → (length shifted ≡ 4080 → ⊥) → no_tally ≡ tallied fits shifted
unfolding tallied
tallied-not fits shifted h = rw (ne_eqb (length shifted) 4080 h)

pub tallied-is : (fits : List Fit) (shifted : List ℕ) → length shifted ≡ 4080 → tally_of fits shifted ≡ tallied fits shifted
unfolding tallied
tallied-is fits shifted h = rw (eq-eqb (length shifted) 4080 h)

-- eight that pass of eight are all
all_pass : (p : ℕ → Bool) (n : ℕ) → n ≤ how_many p n → (k : ℕ) → k < n → p k ≡ true
unfolding how_many
all_pass p zero h k q = absurd (omega arith)
all_pass p (suc n) h k q = last (λ g. all_pass p n g k) (p n) refl (ℕ_discrete k n)
  where
    last : (n ≤ how_many p n → k < n → p k ≡ true) → (b : Bool) → p n ≡ b → Dec (k ≡ n) → p k ≡ true
    last before true e (yes z) = ap p z ∙ e
    last before true e (no z) = before (omega (arith, flag-le (p n))) (omega arith)
    last before false e d = absurd (omega (arith, many-le p n, ap flag e))

module _ (fits : List Fit) (shifted counts votes : List ℕ) (total : ℕ) (p : Noted fits shifted 8 counts votes total) where
  votes-made : votes ≡ each (λ v. count v (told_ballots fits shifted)) 256
  unfolding told_ballots
  votes-made = each_all (λ v. count v (told_ballots fits shifted)) 256 votes p.votes-long p.voted.at

  total_made : total ≡ length (told_ballots fits shifted)
  unfolding told_ballots
  total_made = p.number

  no-others : total ≡ 8 → (v : ℕ) → sum (other_count fits shifted v) 8 ≡ 0
  unfolding other_count
  no-others e v =
      let all : 8 ≤ how_many (told_exact fits) 8 = omega (arith, p.number, among-length (told_exact fits) (first_byte shifted) 8) in
      sum-ext (other_count fits shifted v) (λ s. 0) 8
      (λ s k. ap (λ (b : Bool). pick b 0 (count v (part s shifted))) (all_pass (told_exact fits) 8 all s k))
      ∙ sum-none 8

  pub all-exact : total ≡ 8 → ◌≡◌ {A = Tally} (record { counts = counts; votes = votes; total = total }) (tally_of fits shifted)
  unfolding told_counts
  all-exact e =
      let made : counts ≡ told_counts fits shifted =
      each_all (λ v. sum (exact_count fits shifted v) 8 + sum (other_count fits shifted v) 8) 256 counts p.counts-long
      (λ v k. omega (arith, p.counted v k, no-others e v)) in
      λ i. record { counts = made i; votes = votes-made i; total = total_made i }

  pub with-others :
      (all : List ℕ)
      → all ≡ with_others fits shifted counts
      → ◌≡◌ {A = Tally} (record { counts = all; votes = votes; total = total }) (tally_of fits shifted)
  unfolding with_others told_counts
  with-others all e =
      let made : all ≡ told_counts fits shifted =
      e
      ∙ each-ext (λ v. byte_at counts v + sum (other_count fits shifted v) 8) (λ v. sum (exact_count fits shifted v) 8 + sum (other_count fits shifted v) 8) 256
      (λ v k. ap (λ (n : ℕ). n + sum (other_count fits shifted v) 8) (p.counted v k)) in
      λ i. record { counts = made i; votes = votes-made i; total = total_made i }
