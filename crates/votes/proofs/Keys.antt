-- The four greatest keys in one pass, and what they tell of the commonest values. Assumes nothing.
use Prim.Native.Nat.{ℕ, zero, suc, ◌+◌, ◌-◌, ◌%◌, ◌≤◌, ◌<◌, max, min}
use mathlib.Core.Path.{◌≡◌, refl, sym, ap, ap₂, ◌∙◌}
use mathlib.Core.Bool.{Bool}
use mathlib.Core.List.{List}
use native.Mathlib.Nat.{le_antisymm}
use native.Mathlib.Decide.{ℕ_discrete}
use native.Mathlib.Numerals.{add-one}
use native.Mathlib.Omega.{arith}
use borrow.Author.Tests.{lt-ltb, le-ltb, le-leb, lt-leb, eq-eqb, ne_eqb}
use lib.Dec.{eqb, ltb, leb}
use Rattle.lists.specs.Cases.{pick, flag}
use Rattle.lists.specs.Bytes.{byte_at}
use Rattle.lists.specs.Counts.{how_many, greatest, least}
use Rattle.lists.proofs.Picks.{flag-le}
use Rattle.lists.proofs.Many.{many-none, many-ext}
use Rattle.lists.proofs.Greatest.{greatest-none, greatest-more, greatest-above, greatest-below}
use Rattle.lists.proofs.Least.{least-is}
use Rattle.sector.specs.Fit.{top_place}
use Rattle.votes.specs.Votes.{beats, top_of}
use Rattle.votes.specs.CountTables.{key_of}
use Rattle.votes.proofs.Tests.{lt-cases, same-ltb, below, below-yes, below-no, below-le, below_both}

-- a, b, c and d are the four greatest of f 0, .., f (n - 1): as many of them lie above x as of all, counted to four
pub record Four (f : ℕ → ℕ) (n a b c d : ℕ) : Type 0 where
  pub first : a ≡ greatest f n
  pub second : b ≤ a
  pub third : c ≤ b
  pub fourth : d ≤ c
  pub above : (x : ℕ) → min 4 (how_many (λ w. ltb x (f w)) n) ≡ below x a + below x b + (below x c + below x d)

many_more : (p : ℕ → Bool) (n : ℕ) → how_many p (n + 1) ≡ how_many p n + flag (p n)
unfolding how_many
many_more p n = rw add-one

-- the count behind one number more, of which G is what the last place hands on
module _ (M N K A B C D J I H G A' B' C' D' : ℕ) where
  kept-four :
      A' + J ≡ A + K
      → B' + I ≡ B + J
      → C' + H ≡ C + I
      → D' + G ≡ D + H
      → (G ≤ A') × (G ≤ B') × (G ≤ C') × (G ≤ D')
      → (A ≤ 1) × (B ≤ 1) × (C ≤ 1) × (D ≤ 1)
      → (A' ≤ 1) × (B' ≤ 1) × (C' ≤ 1) × (D' ≤ 1)
      → N ≡ M + K
      → min 4 M ≡ A + B + (C + D)
      → min 4 N ≡ A' + B' + (C' + D')
  kept-four p q r s le old new more m = omega arith

module _ (f : ℕ → ℕ) where
  pub four-none : Four f 0 0 0 0 0
  four-none =
      record {
        first = sym (greatest-none f);
        second = omega arith;
        third = omega arith;
        fourth = omega arith;
        above = λ x. let z : below x 0 ≡ 0 = below-no x 0 (omega arith) in omega (arith, many-none (λ w. ltb x (f w)));
      }

  -- one number more: each place keeps the greater, and hands the lesser on
  module _ (n a b c d k j i h : ℕ) (t : Four f n a b c d) (ek : k ≡ f n) (ej : j ≡ min a k) (ei : i ≡ min b j) (eh : h ≡ min c i) where
    above_more :
        (x : ℕ) → min 4 (how_many (λ w. ltb x (f w)) (n + 1)) ≡ below x (max a k) + below x (max b j) + (below x (max c i) + below x (max d h))
    above_more x =
        let g : ℕ = min d h in
        let p : below x (max a k) + below x j ≡ below x a + below x k = ap (λ (y : ℕ). below x (max a k) + below x y) ej ∙ below_both x a k in
        let q : below x (max b j) + below x i ≡ below x b + below x j = ap (λ (y : ℕ). below x (max b j) + below x y) ei ∙ below_both x b j in
        let r : below x (max c i) + below x h ≡ below x c + below x i = ap (λ (y : ℕ). below x (max c i) + below x y) eh ∙ below_both x c i in
        let m : how_many (λ w. ltb x (f w)) (n + 1) ≡ how_many (λ w. ltb x (f w)) n + below x k =
        many_more (λ w. ltb x (f w)) n ∙ ap (λ (y : ℕ). how_many (λ w. ltb x (f w)) n + below x y) (sym ek) in
        kept-four (how_many (λ w. ltb x (f w)) n) (how_many (λ w. ltb x (f w)) (n + 1)) (below x k) (below x a) (below x b) (below x c)
        (below x d) (below x j) (below x i) (below x h) (below x g) (below x (max a k)) (below x (max b j)) (below x (max c i)) (below x (max d h)) p q r
        (below_both x d h) (
          below-le x g (max a k) (omega (arith, t.second, t.third, t.fourth)),
          below-le x g (max b j) (omega (arith, t.third, t.fourth)),
          below-le x g (max c i) (omega (arith, t.fourth)),
          below-le x g (max d h) (omega arith),
        )
        (flag-le (ltb x a), flag-le (ltb x b), flag-le (ltb x c), flag-le (ltb x d))
        (flag-le (ltb x (max a k)), flag-le (ltb x (max b j)), flag-le (ltb x (max c i)), flag-le (ltb x (max d h)))
        m
        (t.above x)

    pub four-more : Four f (n + 1) (max a k) (max b j) (max c i) (max d h)
    four-more =
        record {
          first = ap₂ max t.first ek ∙ sym (greatest-more f n);
          second = omega (arith, t.second);
          third = omega (arith, t.second, t.third);
          fourth = omega (arith, t.second, t.third, t.fourth);
          above = above_more;
        }

  pub four-as : (n : ℕ) {a b c d a' b' c' d' : ℕ} → a' ≡ a → b' ≡ b → c' ≡ c → d' ≡ d → Four f n a b c d → Four f n a' b' c' d'
  four-as n p q r s t = rw (p, q, r, s) t

  -- fewer than four lie above x where the fourth does not
  pub four-reached : (n a b c d x : ℕ) → Four f n a b c d → ltb (how_many (λ w. ltb x (f w)) n) 4 ≡ leb d x
  four-reached n a b c d x t =
      lt-cases (ltb (how_many (λ w. ltb x (f w)) n) 4 ≡ leb d x) x d
      (λ h.
      le-ltb (how_many (λ w. ltb x (f w)) n) 4
      (omega (
        arith,
        t.above x,
        below-yes x a (omega (arith, t.second, t.third, t.fourth)),
        below-yes x b (omega (arith, t.third, t.fourth)),
        below-yes x c (omega (arith, t.fourth)),
        below-yes x d h,
      ))
      ∙ sym (lt-leb d x h))
      (λ h.
      lt-ltb (how_many (λ w. ltb x (f w)) n) 4 (omega (arith, t.above x, below-no x d h, flag-le (ltb x a), flag-le (ltb x b), flag-le (ltb x c)))
      ∙ sym (le-leb d x h))

  -- the greatest is one of the numbers
  pub greatest-met : (P : Type 0) (n : ℕ) → 0 < n → ((k : ℕ) → k < n → f k ≡ greatest f n → P) → P
  unfolding greatest
  greatest-met P zero h met = absurd (omega arith)
  greatest-met P (suc n) h met =
      lt-cases P (f n) (greatest f n)
      (λ q. lt-cases P 0 n (λ z. greatest-met P n z (λ k l e. met k (omega arith) (omega (arith, e)))) (λ z. absurd (omega (arith, none n z))))
      (λ q. met n (omega arith) (omega arith))
    where
      none : (m : ℕ) → m ≤ 0 → greatest f m ≡ 0
      none zero z = refl
      none (suc m) z = absurd (omega arith)

-- the commoner value has the greater key
abbrev pub key_at : List ℕ → ℕ → ℕ
key_at counts v = key_of (byte_at counts v) v

module _ (counts : List ℕ) where
  pub beats-key : (w v : ℕ) → w < 256 → v < 256 → beats counts w v ≡ ltb (key_at counts v) (key_at counts w)
  unfolding beats
  beats-key w v hw hv = go (ℕ_discrete (byte_at counts w) (byte_at counts v))
    where
      go :
          Dec (byte_at counts w ≡ byte_at counts v)
          → pick (eqb (byte_at counts w) (byte_at counts v)) (ltb w v) (ltb (byte_at counts v) (byte_at counts w))
          ≡ ltb (key_at counts v) (key_at counts w)
      go (yes e) =
          ap (λ (b : Bool). pick b (ltb w v) (ltb (byte_at counts v) (byte_at counts w))) (eq-eqb (byte_at counts w) (byte_at counts v) e)
          ∙ same-ltb w v (key_at counts v) (key_at counts w) (λ h. omega arith) (λ h. omega arith)
      go (no ne) =
          ap (λ (b : Bool). pick b (ltb w v) (ltb (byte_at counts v) (byte_at counts w))) (ne_eqb (byte_at counts w) (byte_at counts v) ne)
          ∙ same-ltb (byte_at counts v) (byte_at counts w) (key_at counts v) (key_at counts w) (λ h. omega arith) (λ h. omega arith)

  pub many-beat : (v : ℕ) → v < 256 → how_many (λ w. beats counts w v) 256 ≡ how_many (λ w. ltb (key_at counts v) (key_at counts w)) 256
  many-beat v h = many-ext (λ w. beats counts w v) (λ w. ltb (key_at counts v) (key_at counts w)) 256 (λ w k. beats-key w v k h)

  -- the greatest key is the top's
  pub top-met : (P : Type 0) → ((k : ℕ) → k < 256 → key_at counts k ≡ greatest (key_at counts) 256 → top_of counts ≡ k → P) → P
  unfolding top_of top_place
  top-met P f = greatest-met (key_at counts) P 256 (omega arith) (λ k h q. f k h q (here k h q))
    where
      here :
          (k : ℕ)
          → k < 256
          → key_at counts k ≡ greatest (key_at counts) 256
          → least (λ v. eqb (byte_at counts v) (greatest (byte_at counts) 256)) 256 ≡ k
      here k h q =
          let most : byte_at counts k ≡ greatest (byte_at counts) 256 =
          le_antisymm (greatest-above (byte_at counts) 256 k h)
          (greatest-below (byte_at counts) 256 (byte_at counts k) (λ j l. omega (arith, greatest-above (key_at counts) 256 j l))) in
          least-is (λ v. eqb (byte_at counts v) (greatest (byte_at counts) 256)) 256 k h (eq-eqb (byte_at counts k) (greatest (byte_at counts) 256) most)
          (λ j l. ne_eqb (byte_at counts j) (greatest (byte_at counts) 256) (λ z. omega (arith, greatest-above (key_at counts) 256 j (omega arith))))

  pub top_key : (a : ℕ) → a ≡ greatest (key_at counts) 256 → 255 - a % 256 ≡ top_of counts
  top_key a e = top-met (255 - a % 256 ≡ top_of counts) (λ k h q t. omega (arith, t))
