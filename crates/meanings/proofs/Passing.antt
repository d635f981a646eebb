-- Laws of the numbers that pass a test: none, one, or two of them, the first, and those that pass a second test too. Assumes nothing.
use Prim.Native.Nat.{ℕ, zero, suc, ◌+◌, ◌≤◌, ◌<◌, zero-le}
use mathlib.Core.Path.{◌≡◌, refl, ap, ap₂, ◌∙◌}
use mathlib.Core.Bool.{Bool, true, false, ◌&&◌}
use mathlib.Core.List.{List, [], ◌∷◌, ◌++◌}
use native.Mathlib.Nat.{not-suc-le-zero}
use native.Mathlib.Omega.{arith}
use lib.ListN.{get_or, get_or-append}
use lib.Seq.{get_or_at}
use Rattle.lists.specs.Cases.{pick, flag}
use Rattle.lists.specs.Counts.{how_many}
use Rattle.lists.specs.Pieces.{among, keep}
use Rattle.lists.proofs.Among.{among-length}
use Rattle.lists.proofs.Booleans.{not-true}
use Rattle.lists.proofs.Keep.{keep_append}
use Rattle.lists.proofs.Many.{many-zero, many-some, many-two}
use Rattle.votes.proofs.Tests.{lt-cases}

module _ (p : ℕ → Bool) where
  pub none_pass : (n : ℕ) → how_many p n ≡ 0 → (k : ℕ) → k < n → p k ≡ false
  none_pass n e k h = not-true (p k) (λ t. omega (arith, many-some p n k h t))

  pub both-pass : (n j k : ℕ) → j < n → k < n → (j ≡ k → ⊥) → p j ≡ true → p k ≡ true → 2 ≤ how_many p n
  both-pass n j k l h d e f =
      lt-cases (2 ≤ how_many p n) j k (λ q. many-two p n j k q h e f) (λ q. many-two p n k j (omega arith) l f e)

  pub only_one : (n k : ℕ) → how_many p n ≤ 1 → k < n → p k ≡ true → (j : ℕ) → j < n → (j ≡ k → ⊥) → p j ≡ false
  only_one n k one h e j l d = not-true (p j) (λ t. omega (arith, both-pass n j k l h d t e))

  -- where any two that pass are equal
  pub all-equal : (n : ℕ) → ((j k : ℕ) → j < n → k < n → p j ≡ true → p k ≡ true → j ≡ k) → how_many p n ≤ 1
  unfolding how_many
  all-equal zero h = zero-le
  all-equal (suc n) h = go (p n) refl (all-equal n (λ j k l m. h j k (omega arith) (omega arith)))
    where
      go : (b : Bool) → p n ≡ b → how_many p n ≤ 1 → how_many p n + flag b ≤ 1
      go true e ih =
          omega (arith, many-zero p n (λ j l. not-true (p j) (λ t. omega (arith, h j n (omega arith) (omega arith) t e))))
      go false e ih = omega arith

-- ---- those that pass, in a list

module _ {A : Type 0} (f : ℕ → A) where
  pub among-ext : (p q : ℕ → Bool) (n : ℕ) → ((k : ℕ) → k < n → p k ≡ q k) → among p f n ≡ among q f n
  unfolding among
  among-ext p q zero h = refl
  among-ext p q (suc n) h =
      ap₂ (λ (l : List A) (b : Bool). l ++ pick b (f n ∷ []) []) (among-ext p q n (λ k l. h k (omega arith))) (h n (omega arith))

  pub kept-among : (p : ℕ → Bool) (q : A → Bool) (n : ℕ) → keep q (among p f n) ≡ among (λ k. p k && q (f k)) f n
  unfolding among keep
  kept-among p q zero = refl
  kept-among p q (suc n) =
      keep_append q (among p f n) (pick (p n) (f n ∷ []) []) ∙ ap₂ (λ (l m : List A). l ++ m) (kept-among p q n) (one (p n))
    where
      one : (b : Bool) → keep q (pick b (f n ∷ []) []) ≡ pick (b && q (f n)) (f n ∷ []) []
      one true = refl
      one false = refl

  -- the first of them
  pub record First (p : ℕ → Bool) (d : A) (n : ℕ) : Type 0 where
    pub at : ℕ
    pub below : at < n
    pub passes : p at ≡ true
    pub first : get_or (among p f n) 0 d ≡ f at

  pub first_passes : (p : ℕ → Bool) (d : A) (n : ℕ) → 0 < how_many p n → First p d n
  unfolding among how_many
  first_passes p d zero h = absurd (not-suc-le-zero h)
  first_passes p d (suc n) h = go (how_many p n) refl (p n) refl (first_passes p d n)
    where
      go : (m : ℕ) → how_many p n ≡ m → (b : Bool) → p n ≡ b → (0 < how_many p n → First p d n) → First p d (suc n)
      go (suc m) e b q ih =
          let r : First p d n = ih (omega arith) in
          record {
            at = r.at;
            below = omega (arith, r.below);
            passes = r.passes;
            first = get_or-append (among p f n) (pick (p n) (f n ∷ []) []) d 0 (omega (arith, among-length p f n)) ∙ r.first;
          }
      go zero e true q ih =
          record {
            at = n;
            below = omega arith;
            passes = q;
            first =
                ap (λ (b : Bool). get_or (among p f n ++ pick b (f n ∷ []) []) 0 d) q ∙ get_or_at (among p f n) (f n) [] d 0 (among-length p f n ∙ e);
          }
      go zero e false q ih = absurd (omega (arith, h, ap flag q))
