-- Laws of the counts of classes: a value's count is that of q classes together, and a class is two of twice as many. Assumes nothing.
use Prim.Native.Nat.{ℕ, ◌+◌, ◌*◌, ◌%◌, ◌≤◌, ◌<◌}
use mathlib.Core.Path.{◌≡◌, refl, sym, ap, ap₂, ◌∙◌}
use mathlib.Core.List.{List}
use native.Mathlib.Nat.{zero-add, mul_comm, mul_assoc, add-mul, mul-add, mul-one, zero-mul, one-mul}
use native.Mathlib.Decide.{ℕ_discrete}
use native.Mathlib.Omega.{arith}
use borrow.Author.Tests.{eq-eqb, ne_eqb}
use lib.Dec.{eqb}
use lib.ListN.{length}
use Rattle.lists.specs.Bytes.{less, byte_at}
use Rattle.lists.specs.Counts.{count, how_many, sum}
use Rattle.lists.proofs.Count.{count-many}
use Rattle.lists.proofs.Many.{many-ext, many-le}
use Rattle.lists.proofs.Plain.{less-byte, less-add}
use Rattle.lists.proofs.Sums.{sum-ext, many-classes}
use Rattle.sector.specs.Byte.{shifted_of}
use Rattle.sector.specs.Fit.{shifted_list}
use Rattle.sector.proofs.Bytes.{less-of, less-mod, less-sum, mul-mod}
use Rattle.sector.proofs.Shifts.{shift-length, shifted_at}
use Rattle.rings.specs.Class.{class_count}

-- ---- one byte

-- a byte less d is v where it is v turned by d
less-turned : (z v d : ℕ) → z < 256 → v < 256 → eqb v (less z d) ≡ eqb ((v + d) % 256) z
less-turned z v d hz hv = go (ℕ_discrete v (less z d))
  where
    go : Dec (v ≡ less z d) → eqb v (less z d) ≡ eqb ((v + d) % 256) z
    go (yes q) = eq-eqb v (less z d) q ∙ sym (eq-eqb ((v + d) % 256) z (ap (λ (x : ℕ). (x + d) % 256) q ∙ less-add z d hz))
    go (no ne) = ne_eqb v (less z d) ne ∙ sym (ne_eqb ((v + d) % 256) z (λ q. ne (less-of z d v hv q)))

-- byte j of class r of q: its place in the sector counts for r steps, and its place in the class for q steps each
class-byte : (b o q r s j v : ℕ) → v < 256 → eqb v (shifted_of b o (q * j + r) s) ≡ eqb ((v + r * s) % 256) (shifted_of b o j (q * s))
unfolding shifted_of
class-byte b o q r s j v hv =
    let apart : (q * j + r) * s ≡ j * (q * s) + r * s =
    add-mul (q * j) r s ∙ ap (λ (x : ℕ). x + r * s) (ap (λ (x : ℕ). x * s) (mul_comm q j) ∙ mul_assoc j q s) in
    ap (eqb v) (ap (less (less b o)) apart ∙ less-sum (less b o) (j * (q * s)) (r * s))
    ∙ less-turned (less (less b o) (j * (q * s))) v (r * s) (less-byte (less b o) (j * (q * s))) hv

step_same : (j k m : ℕ) → k % 256 ≡ m % 256 → (j * k) % 256 ≡ (j * m) % 256
step_same j k m e =
    ap (λ (x : ℕ). x % 256) (mul_comm j k)
    ∙ sym (mul-mod k j)
    ∙ ap (λ (x : ℕ). (x * j) % 256) e
    ∙ mul-mod m j
    ∙ ap (λ (x : ℕ). x % 256) (mul_comm m j)

-- ---- a class

module _ (l : List ℕ) (q r o : ℕ) where
  pub class-le : (k n v : ℕ) → class_count l q r o k n v ≤ n
  unfolding class_count
  class-le k n v = many-le (λ j. eqb v (shifted_of (byte_at l (q * j + r)) o j k)) n

  -- only the remainder of the step counts
  pub class-step : (k m n v : ℕ) → k % 256 ≡ m % 256 → class_count l q r o k n v ≡ class_count l q r o m n v
  unfolding class_count shifted_of
  class-step k m n v e =
      many-ext _ _ n
      (λ j h. ap (eqb v) (less-mod (less (byte_at l (q * j + r)) o) (j * k) (less (byte_at l (q * j + r)) o) (j * m) refl (step_same j k m e)))

  -- every second byte of it, and the others
  even-at : (j : ℕ) → q * (2 * j + 0) + r ≡ 2 * q * j + r
  even-at j = omega (arith, mul-add q (2 * j) 0, mul_assoc q 2 j, mul_assoc 2 q j, mul_comm q 2)

  odd-at : (j : ℕ) → q * (2 * j + 1) + r ≡ 2 * q * j + (r + q)
  odd-at j = omega (arith, mul-add q (2 * j) 1, mul-one q, mul_assoc q 2 j, mul_assoc 2 q j)

  half :
      (i c s n v : ℕ)
      → v < 256
      → ((j : ℕ) → q * (2 * j + i) + r ≡ 2 * q * j + c)
      → how_many (λ j. eqb v (shifted_of (byte_at l (q * (2 * j + i) + r)) o (2 * j + i) (q * s))) n
      ≡ class_count l (2 * q) c o (2 * q * s) n ((v + i * (q * s)) % 256)
  unfolding class_count
  half i c s n v hv at =
      many-ext _ _ n
      (λ j h. class-byte (byte_at l (q * (2 * j + i) + r)) o 2 i (q * s) j v hv
      ∙ ap₂ (λ (x y : ℕ). eqb ((v + i * (q * s)) % 256) (shifted_of (byte_at l x) o j y)) (at j) (sym (mul_assoc 2 q s)))

  pub class-halves :
      (s n v : ℕ)
      → v < 256
      → class_count l q r o (q * s) (2 * n) v
      ≡ class_count l (2 * q) r o (2 * q * s) n v + class_count l (2 * q) (r + q) o (2 * q * s) n ((v + q * s) % 256)
  unfolding class_count sum
  class-halves s n v hv =
      let same : (v + 0 * (q * s)) % 256 ≡ v = omega (arith, zero-mul (q * s)) in
      many-classes (λ j. eqb v (shifted_of (byte_at l (q * j + r)) o j (q * s))) 2 n
      ∙ ap₂ (λ (a b : ℕ). a + b)
      (zero-add _ ∙ half 0 r s n v hv even-at ∙ ap (class_count l (2 * q) r o (2 * q * s) n) same)
      (half 1 (r + q) s n v hv odd-at ∙ ap (λ (x : ℕ). class_count l (2 * q) (r + q) o (2 * q * s) n ((v + x) % 256)) (one-mul (q * s)))

-- ---- all classes

-- THE COUNT of a value under a step: that of each of q classes, turned by as many steps as the class is behind
pub count-classes :
    (l : List ℕ) (q n o s v : ℕ)
    → q * n ≡ length l
    → v < 256
    → count v (shifted_list o s l) ≡ sum (λ r. class_count l q r o (q * s) n ((v + r * s) % 256)) q
unfolding class_count
count-classes l q n o s v size hv =
    count-many v (shifted_list o s l)
    ∙ ap (how_many (λ i. eqb v (byte_at (shifted_list o s l) i))) (shift-length o s 0 l ∙ sym size)
    ∙ many-ext _ (λ i. eqb v (shifted_of (byte_at l i) o i s)) (q * n)
    (λ i h. ap (eqb v) (shifted_at o s l i (omega arith)))
    ∙ many-classes (λ i. eqb v (shifted_of (byte_at l i) o i s)) q n
    ∙ sum-ext _ _ q (λ r h. many-ext _ _ n (λ j k. class-byte (byte_at l (q * j + r)) o q r s j v hv))
