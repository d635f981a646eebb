-- The exact sectors one after the other: what each adds to the counts and to the votes. Assumes nothing.
use Prim.Native.Nat.{ℕ, zero, suc, ◌+◌, ◌-◌, ◌*◌, ◌≤◌, ◌<◌}
use mathlib.Core.Path.{◌≡◌, refl, sym, ap, ◌∙◌, subst}
use mathlib.Core.Bool.{true, false}
use mathlib.Core.List.{List, [], ◌∷◌, ◌++◌}
use native.Mathlib.Decide.{ℕ_discrete}
use native.Mathlib.Numerals.{add-one}
use native.Mathlib.Omega.{arith}
use borrow.Author.Tests.{eq-eqb, ne_eqb}
use lib.Dec.{eqb}
use lib.ListN.{length, get_or, set, replicate, length-append, length-set, get_or-replicate}
use lib.Seq.{get_or-set_same, get_or-set_other}
use Rattle.lists.specs.Cases.{pick}
use Rattle.lists.specs.Bytes.{byte_at}
use Rattle.lists.specs.Counts.{sum, Tallies}
use Rattle.lists.proofs.Picks.{pick-case}
use Rattle.lists.proofs.Count.{tallies-none, tallies-more, tallies-le}
use Rattle.lists.proofs.Many.{many-le}
use Rattle.lists.proofs.Among.{among_none, among-yes, among-no, among-length}
use Rattle.sector.specs.declared.fits.Fit.{Fit}
use Rattle.summary.specs.Page.{sector_end}
use Rattle.census.specs.Told.{told_exact, first_byte, exact_count}
use Rattle.census.specs.Tables.{ballots_to, Noted, AtMost}

pub sum_more : (f : ℕ → ℕ) (n : ℕ) → sum f (n + 1) ≡ sum f n + f n
unfolding sum
sum_more f n = rw add-one

pub sum-few : (f : ℕ → ℕ) (n : ℕ) → ((k : ℕ) → f k ≤ 512) → sum f n ≤ n * 512
unfolding sum
sum-few f zero h = omega arith
sum-few f (suc n) h = omega (arith, sum-few f n h, h n)

module _ (fits : List Fit) (shifted : List ℕ) where
  exact-le : (v s : ℕ) → exact_count fits shifted v s ≤ 512
  unfolding exact_count
  exact-le v s =
      pick-case (λ (n : ℕ). n ≤ 512) (told_exact fits s) (pick (eqb v (first_byte shifted s)) (sector_end s - s * 512) 0) 0
      (λ _. pick-case (λ (n : ℕ). n ≤ 512) (eqb v (first_byte shifted s)) (sector_end s - s * 512) 0 (λ _. omega arith) (λ _. omega arith))
      (λ _. omega arith)

  exact-here : (v s : ℕ) → told_exact fits s ≡ true → v ≡ first_byte shifted s → exact_count fits shifted v s ≡ sector_end s - s * 512
  unfolding exact_count
  exact-here v s t e = rw (t, eq-eqb v (first_byte shifted s) e)

  exact-elsewhere : (v s : ℕ) → told_exact fits s ≡ true → (v ≡ first_byte shifted s → ⊥) → exact_count fits shifted v s ≡ 0
  unfolding exact_count
  exact-elsewhere v s t ne = rw (t, ne_eqb v (first_byte shifted s) ne)

  exact_none : (v s : ℕ) → told_exact fits s ≡ false → exact_count fits shifted v s ≡ 0
  unfolding exact_count
  exact_none v s t = rw t

  pub noted-none : Noted fits shifted 0 (replicate 256 0) (replicate 256 0) 0
  unfolding sum
  noted-none =
      record {
        counts-long = refl;
        counted = λ v h. get_or-replicate 256 v 0 0 h;
        votes-long = refl;
        voted = subst (Tallies 256 (replicate 256 0)) (sym (among_none (told_exact fits) (first_byte shifted))) (tallies-none 256);
        number = ap length (sym (among_none (told_exact fits) (first_byte shifted)));
      }

  module _ (s : ℕ) (counts votes : List ℕ) (total : ℕ) (p : Noted fits shifted s counts votes total) where
    few : length (ballots_to fits shifted s) ≤ s
    few = omega (arith, among-length (told_exact fits) (first_byte shifted) s, many-le (told_exact fits) s)

    pub noted-le : (v : ℕ) → v < 256 → byte_at counts v ≤ s * 512
    noted-le v h = omega (arith, p.counted v h, sum-few (exact_count fits shifted v) s (exact-le v))

    pub votes-le : (v : ℕ) → v < 256 → byte_at votes v ≤ s
    votes-le v h = omega (arith, tallies-le 256 votes (ballots_to fits shifted s) p.voted v h, few)

    pub total-le : total ≤ s
    total-le = omega (arith, p.number, few)

    pub noted-no : told_exact fits s ≡ false → Noted fits shifted (s + 1) counts votes total
    noted-no t =
        let e : ballots_to fits shifted (s + 1) ≡ ballots_to fits shifted s = among-no (told_exact fits) (first_byte shifted) s t in
        record {
          counts-long = p.counts-long;
          counted = λ v h. omega (arith, p.counted v h, sum_more (exact_count fits shifted v) s, exact_none v s t);
          votes-long = p.votes-long;
          voted = subst (Tallies 256 votes) (sym e) p.voted;
          number = p.number ∙ ap length (sym e);
        }

    module _ (x n : ℕ) (t : told_exact fits s ≡ true) (ex : x ≡ first_byte shifted s) (hx : x < 256) (en : n ≡ sector_end s - s * 512) where
      pub noted-yes : Noted fits shifted (s + 1) (set counts x (get_or counts x 0 + n)) (set votes x (get_or votes x 0 + 1)) (total + 1)
      noted-yes =
          let e : ballots_to fits shifted (s + 1) ≡ ballots_to fits shifted s ++ (x ∷ []) =
          among-yes (told_exact fits) (first_byte shifted) s t ∙ ap (λ (y : ℕ). ballots_to fits shifted s ++ (y ∷ [])) (sym ex) in
          record {
            counts-long = length-set counts x (get_or counts x 0 + n) ∙ p.counts-long;
            counted = λ v h. go v h (ℕ_discrete v x);
            votes-long = length-set votes x (get_or votes x 0 + 1) ∙ p.votes-long;
            voted =
                subst (Tallies 256 (set votes x (get_or votes x 0 + 1))) (sym e)
                (tallies-more 256 votes (ballots_to fits shifted s) p.voted x (omega (arith, p.votes-long)));
            number = omega (arith, p.number, ap length e, length-append (ballots_to fits shifted s) (x ∷ []));
          }
        where
          go : (v : ℕ) → v < 256 → Dec (v ≡ x) → get_or (set counts x (get_or counts x 0 + n)) v 0 ≡ sum (exact_count fits shifted v) (s + 1)
          go v h (yes q) =
              let here : get_or (set counts x (get_or counts x 0 + n)) v 0 ≡ get_or counts v 0 + n =
              ap (λ (k : ℕ). get_or (set counts x (get_or counts x 0 + n)) k 0) q
              ∙ get_or-set_same counts x (get_or counts x 0 + n) 0 (omega (arith, p.counts-long))
              ∙ ap (λ (k : ℕ). get_or counts k 0 + n) (sym q) in
              here ∙ omega (arith, p.counted v h, sum_more (exact_count fits shifted v) s, exact-here v s t (q ∙ ex), en)
          go v h (no ne) =
              get_or-set_other counts x v (get_or counts x 0 + n) 0 ne
              ∙ omega (arith, p.counted v h, sum_more (exact_count fits shifted v) s, exact-elsewhere v s t (λ q. ne (q ∙ sym ex)))

  -- the same at equal tables
  pub noted-as :
      (s : ℕ) {c c' v v' : List ℕ} {n n' : ℕ} → c' ≡ c → v' ≡ v → n' ≡ n → Noted fits shifted s c v n → Noted fits shifted s c' v' n'
  noted-as s p q r t = rw (p, q, r) t

  -- after all sectors
  pub noted-most : (counts votes : List ℕ) (total : ℕ) → Noted fits shifted 8 counts votes total → AtMost 4096 counts
  noted-most counts votes total p = record { long = p.counts-long; small = λ v h. omega (arith, noted-le 8 counts votes total p v h) }
