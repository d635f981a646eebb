-- How many of some numbers are the greatest: counted one number after the other, and when there is more than one. Assumes nothing.
use Rattle.std.proofs.Common.{◌≡◌, ℕ, ◌+◌, ◌<◌, ◌≤◌, Bool, eqb, sym, refl, ap, ◌∙◌, subst₂, arith, eq-eqb, ne_eqb}
use native.Mathlib.Decide.{ℕ_discrete, dec_lt}
use Rattle.lists.specs.Counts.{greatest, how_many}
use Rattle.lists.specs.Pieces.{each}
use Rattle.lists.proofs.Greatest.{greatest-none, greatest-above, greatest-below, greatest-up, greatest-same}
use Rattle.lists.proofs.Many.{many-none, many-yes, many-no, many-zero, many-le, many-all, many-some, many-two, many-one}
use Rattle.sector.specs.Fit.{top_place, second, but_at, ties}
use Rattle.sector.proofs.Leads.{but-here, but-there}
use Rattle.sector.proofs.Sorted.{sorted-falls, sorted-first, sorted-next, top_within, top-here}

-- after n numbers the greatest is `most`, and `tied` of them are it
pub record Tied (f : ℕ → ℕ) (n most tied : ℕ) : Type 0 where
  pub top : most ≡ greatest f n
  pub many : tied ≡ how_many (λ k. eqb (f k) most) n

module _ (f : ℕ → ℕ) where
  pub tied-none : Tied f 0 0 0
  tied-none = record { top = sym (greatest-none f); many = sym (many-none _) }

  module _ (n most tied : ℕ) (t : Tied f n most tied) where
    -- a greater number is the first that is the greatest
    pub tied-up : most < f n → Tied f (n + 1) (f n) 1
    tied-up h =
        let p : ℕ → Bool = λ k. eqb (f k) (f n) in
        record {
          top = greatest-up f n most t.top h;
          many = omega (arith, many-yes p n (eq-eqb (f n) (f n) refl), many-zero p n (λ k l. ne_eqb (f k) (f n) (λ e. omega (arith, greatest-above f n k l, t.top))));
        }

    -- an equal one is counted, a lesser one is not
    pub tied-more : f n ≡ most → Tied f (n + 1) most (tied + 1)
    tied-more e =
        record {
          top = greatest-same f n most t.top (omega arith);
          many = omega (arith, t.many, many-yes (λ k. eqb (f k) most) n (eq-eqb (f n) most e));
        }

    pub tied-stay : f n < most → Tied f (n + 1) most tied
    tied-stay h =
        record {
          top = greatest-same f n most t.top (omega arith);
          many = t.many ∙ sym (many-no (λ k. eqb (f k) most) n (ne_eqb (f n) most (λ e. omega arith)));
        }

    pub tied-le : tied ≤ n
    tied-le = omega (arith, t.many, many-le (λ k. eqb (f k) most) n)

    pub tied_is : tied ≡ ties f n
    unfolding ties
    tied_is = t.many ∙ ap (λ (m : ℕ). how_many (λ k. eqb (f k) m) n) t.top

-- the same at equal numbers
pub tied-as : (f : ℕ → ℕ) (n : ℕ) {m t m' t' : ℕ} → m' ≡ m → t' ≡ t → Tied f n m t → Tied f n m' t'
tied-as f n a b x = subst₂ (λ (m t : ℕ). Tied f n m t) (sym a) (sym b) x

-- THE MEANING of the number of ties, of any n numbers: from 1 to n, and above 1 where the second is the greatest as well
module _ (f : ℕ → ℕ) (n : ℕ) where
  pub ties-some : 0 < n → 1 ≤ ties f n
  unfolding ties
  ties-some h = many-some (λ k. eqb (f k) (greatest f n)) n (top_place f n) (top_within f n h) (eq-eqb _ _ (top-here f n h))

  pub ties-le : ties f n ≤ n
  unfolding ties
  ties-le = many-le (λ k. eqb (f k) (greatest f n)) n

  -- where all are equal, all tie
  pub ties-all : (x : ℕ) → ((k : ℕ) → k < n → f k ≡ x) → ties f n ≡ n
  unfolding ties
  ties-all x same =
      many-all (λ k. eqb (f k) (greatest f n)) n
      (λ k l. eq-eqb (f k) (greatest f n) (omega (arith, same k l, greatest-above f n k l, greatest-below f n x (λ j h. omega (arith, same j h)))))

  second-le : 0 < n → second f n ≤ greatest f n
  second-le h = omega (arith, (sorted-falls (each f n)).at 0, sorted-first f n, sorted-next f n h)

  -- alone at the top: every other number is at most the second, and so less
  alone : 0 < n → second f n < greatest f n → ties f n ≤ 1
  unfolding ties second
  alone h less =
      many-one (λ k. eqb (f k) (greatest f n)) n (top_place f n)
      (λ k l ne. ne_eqb (f k) (greatest f n) (λ e. omega (arith, e, but-there f (top_place f n) k ne, greatest-above (but_at f (top_place f n)) n k l, less)))

  pub ties-second : 0 < n → 1 < ties f n → second f n ≡ greatest f n
  ties-second h more = go (dec_lt (second f n) (greatest f n))
    where
      go : Dec (second f n < greatest f n) → second f n ≡ greatest f n
      go (yes less) = omega (arith, alone h less)
      go (no no_less) = omega (arith, second-le h)

  -- two places that have the greatest
  both : (i j : ℕ) → i < n → j < n → (i ≡ j → ⊥) → f i ≡ greatest f n → f j ≡ greatest f n → 1 < ties f n
  unfolding ties
  both i j hi hj ne a b = go (dec_lt i j)
    where
      go : Dec (i < j) → 1 < ties f n
      go (yes h) = many-two (λ k. eqb (f k) (greatest f n)) n i j h hj (eq-eqb (f i) (greatest f n) a) (eq-eqb (f j) (greatest f n) b)
      go (no h) = many-two (λ k. eqb (f k) (greatest f n)) n j i (omega arith) hi (eq-eqb (f j) (greatest f n) b) (eq-eqb (f i) (greatest f n) a)

  pub second-ties : 1 < n → second f n ≡ greatest f n → 1 < ties f n
  unfolding second
  second-ties h e = go (ℕ_discrete place (top_place f n))
    where
      others : ℕ → ℕ
      others = but_at f (top_place f n)

      place : ℕ
      place = top_place others n

      within : place < n
      within = top_within others n (omega arith)

      there : others place ≡ greatest f n
      there = top-here others n (omega arith) ∙ e

      zero-all : greatest f n ≡ 0 → (k : ℕ) → k < n → f k ≡ greatest f n
      zero-all z k l = omega (arith, z, greatest-above f n k l)

      go : Dec (place ≡ top_place f n) → 1 < ties f n
      go (yes same) =
          let z : greatest f n ≡ 0 = sym there ∙ ap others same ∙ but-here f (top_place f n) in
          both 0 1 (omega arith) h (λ q. omega arith) (zero-all z 0 (omega arith)) (zero-all z 1 h)
      go (no ne) = both place (top_place f n) within (top_within f n (omega arith)) ne (sym (but-there f (top_place f n) place ne) ∙ there) (top-here f n (omega arith))
