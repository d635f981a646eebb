-- Sums, and what they say of `how_many` and `count`. Assumes nothing.
use Prim.Native.Nat.{ℕ, zero, suc, ◌+◌, ◌*◌, ◌≤◌, ◌<◌}
use mathlib.Core.Path.{◌≡◌, refl, sym, ap, ap₂, ◌∙◌}
use mathlib.Core.Bool.{Bool, true, false}
use mathlib.Core.List.{List, [], ◌∷◌}
use native.Mathlib.Nat.{add-mul, mul-zero, mul-suc}
use native.Mathlib.Omega.{arith}
use borrow.Author.Tests.{ne_eqb}
use lib.Dec.{eqb}
use lib.ListN.{length}
use Rattle.lists.specs.Cases.{flag}
use Rattle.lists.specs.Counts.{count, how_many, sum}
use Rattle.lists.proofs.Many.{many-one, many-ahead}

pub sum_both : (f g : ℕ → ℕ) (n : ℕ) → sum (λ k. f k + g k) n ≡ sum f n + sum g n
unfolding sum
sum_both f g zero = refl
sum_both f g (suc n) = omega (arith, sum_both f g n)

pub sum-none : (n : ℕ) → sum (λ k. 0) n ≡ 0
unfolding sum
sum-none zero = refl
sum-none (suc n) = omega (arith, sum-none n)

-- it depends on the numbers alone
pub sum-ext : (f g : ℕ → ℕ) (n : ℕ) → ((k : ℕ) → k < n → f k ≡ g k) → sum f n ≡ sum g n
unfolding sum
sum-ext f g zero h = refl
sum-ext f g (suc n) h = ap₂ (λ (a b : ℕ). a + b) (sum-ext f g n (λ k l. h k (omega arith))) (h n (omega arith))

pub sum-flags : (p : ℕ → Bool) (n : ℕ) → sum (λ k. flag (p k)) n ≡ how_many p n
unfolding sum how_many
sum-flags p zero = refl
sum-flags p (suc n) = omega (arith, sum-flags p n)

-- how many below q n pass: those of q classes together, of which each has every q-th number
pub many-classes : (p : ℕ → Bool) (q n : ℕ) → how_many p (q * n) ≡ sum (λ r. how_many (λ j. p (q * j + r)) n) q
unfolding how_many
many-classes p q zero = ap (how_many p) (mul-zero q) ∙ sym (sum-none q)
many-classes p q (suc n) =
    ap (how_many p) (mul-suc q n)
    ∙ many-ahead p (q * n) q
    ∙ ap₂ (λ (a b : ℕ). a + b) (many-classes p q n) (sym (sum-flags (λ r. p (q * n + r)) q))
    ∙ sym (sum_both (λ r. how_many (λ j. p (q * j + r)) n) (λ r. flag (p (q * n + r))) q)

-- where each that passes has m or more, all together have m for each
enough : (m : ℕ) (b : Bool) (x : ℕ) → (b ≡ true → m ≤ x) → flag b * m ≤ x
enough m true x h = omega (arith, h refl)
enough m false x h = omega arith

pub sum-many : (m : ℕ) (p : ℕ → Bool) (f : ℕ → ℕ) (n : ℕ) → ((k : ℕ) → k < n → p k ≡ true → m ≤ f k) → how_many p n * m ≤ sum f n
unfolding how_many sum
sum-many m p f zero h = omega arith
sum-many m p f (suc n) h =
    omega (arith, add-mul (how_many p n) (flag (p n)) m, sum-many m p f n (λ k l. h k (omega arith)), enough m (p n) (f n) (h n (omega arith)))

-- the counts of different values are no more than there are elements
one_value : (x n : ℕ) → sum (λ v. flag (eqb v x)) n ≤ 1
one_value x n = omega (arith, sum-flags (λ v. eqb v x) n, many-one (λ v. eqb v x) n x (λ k l. ne_eqb k x))

pub sum-counts : (l : List ℕ) (n : ℕ) → sum (λ v. count v l) n ≤ length l
unfolding count
sum-counts [] n = omega (arith, sum-none n)
sum-counts (x ∷ l) n = omega (arith, sum_both (λ v. flag (eqb v x)) (λ v. count v l) n, one_value x n, sum-counts l n)
