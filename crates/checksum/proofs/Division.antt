-- `remainder` is a remainder: p = q g + r, with r of lower degree than g. The quotient q has a coefficient for each step of the division.
-- Assumes nothing.
use mathlib.Core.Path.{◌≡◌, refl, sym, ap, ap₂, ◌∙◌}
use mathlib.Core.Bool.{Bool, true, false, ◌&&◌}
use mathlib.Core.List.{[], ◌∷◌, ◌++◌, map, append-nil}
use Prim.Native.Nat.{ℕ, zero, suc, ◌+◌, ◌-◌, ◌≤◌}
use native.Mathlib.Nat.{suc-le-suc_iff}
use native.Mathlib.Omega.{arith}
use lib.ListN.{length, replicate, length-append, length-replicate, length-map}
use Rattle.lists.specs.Counts.{is_in}
use Rattle.checksum.specs.Poly.{Poly, plus, sum, times, rest, divide, remainder, add, product, IsRemainder}
use Rattle.checksum.specs.V42.{generator}

-- ---- sums

pub length-sum : (p q : Poly) → length q ≤ length p → length (sum p q) ≡ length p
length-sum [] [] h = refl
length-sum [] (b ∷ q) h = omega arith
length-sum (a ∷ p) [] h = refl
length-sum (a ∷ p) (b ∷ q) h = ap suc (length-sum p q (suc-le-suc_iff.0 h))

plus_assoc : (a b c : Bool) → plus (plus a b) c ≡ plus a (plus b c)
plus_assoc true true true = refl
plus_assoc true true false = refl
plus_assoc true false c = refl
plus_assoc false b c = refl

plus-cancel : (a b : Bool) → plus b (plus a b) ≡ a
plus-cancel true true = refl
plus-cancel true false = refl
plus-cancel false true = refl
plus-cancel false false = refl

sum-assoc : (p q r : Poly) → sum (sum p q) r ≡ sum p (sum q r)
sum-assoc [] q r = refl
sum-assoc (a ∷ p) [] r = refl
sum-assoc (a ∷ p) (b ∷ q) [] = refl
sum-assoc (a ∷ p) (b ∷ q) (c ∷ r) = ap₂ (λ (x : Bool) (l : Poly). x ∷ l) (plus_assoc a b c) (sum-assoc p q r)

sum_zeros : (n : ℕ) (p : Poly) → n ≤ length p → sum (replicate n false) p ≡ p
sum_zeros zero p h = refl
sum_zeros (suc n) [] h = absurd (omega arith)
sum_zeros (suc n) (a ∷ p) h = ap (λ (l : Poly). a ∷ l) (sum_zeros n p (suc-le-suc_iff.0 h))

sum-none : (n : ℕ) (p : Poly) → n ≤ length p → sum p (replicate n false ++ []) ≡ p
sum-none zero [] h = refl
sum-none zero (a ∷ p) h = refl
sum-none (suc n) [] h = absurd (omega arith)
sum-none (suc n) (true ∷ p) h = ap (λ (l : Poly). true ∷ l) (sum-none n p (suc-le-suc_iff.0 h))
sum-none (suc n) (false ∷ p) h = ap (λ (l : Poly). false ∷ l) (sum-none n p (suc-le-suc_iff.0 h))

-- what was subtracted is added again
sum-cancel : (k : ℕ) (g p : Poly) → length g + k ≤ length p → sum (times k g) (sum p g) ≡ p
sum-cancel k [] [] h = sum_zeros k [] (omega arith)
sum-cancel k [] (a ∷ p) h = sum_zeros k (a ∷ p) (omega arith)
sum-cancel k (b ∷ g) [] h = absurd (omega arith)
sum-cancel k (b ∷ g) (a ∷ p) h = ap₂ (λ (x : Bool) (l : Poly). x ∷ l) (plus-cancel a b) (sum-cancel k g p (omega arith))

-- ---- a coefficient times the divisor

once : (g : Poly) → map (λ b. true && b) g ≡ g
once [] = refl
once (b ∷ g) = ap (λ (l : Poly). b ∷ l) (once g)

never : (k : ℕ) (g : Poly) → times k (map (λ b. false && b) g) ≡ replicate (length g + k) false
never k [] =
    let e : k ≡ 0 + k = omega arith in
    ap (λ (n : ℕ). replicate n false) e
never k (b ∷ g) =
    let e : suc (length g + k) ≡ suc (length g) + k = omega arith in
    ap (λ (l : Poly). false ∷ l) (never k g) ∙ ap (λ (n : ℕ). replicate n false) e

-- ---- equal powers, where the longer begins

add-shorter : (n : ℕ) (p q : Poly) → length p ≡ n + length q → add p q ≡ sum p (replicate n false ++ q)
unfolding add
add-shorter n p q h =
    let e : length q - length p ≡ 0 = omega arith in
    let d : length p - length q ≡ n = omega arith in
    ap₂ (λ (i j : ℕ). sum (replicate i false ++ p) (replicate j false ++ q)) e d

add_none : (p : Poly) → add [] p ≡ p
unfolding add
add_none p =
    let e : length p - 0 ≡ length p = omega arith in
    let d : 0 - length p ≡ 0 = omega arith in
    ap₂ (λ (i j : ℕ). sum (replicate i false ++ []) (replicate j false ++ p)) e d
    ∙ ap (λ (l : Poly). sum l p) (append-nil (replicate (length p) false)) ∙ sum_zeros (length p) p (omega arith)

module _ (g : Poly) where
  -- the product by a divisor whose highest coefficient is 1, from the highest power on
  headed : Poly → Poly
  headed [] = []
  headed (a ∷ q) = sum (times (length q) (map (λ b. a && b) (true ∷ g))) (false ∷ headed q)

  length-term : (a : Bool) (k : ℕ) → length (times k (map (λ b. a && b) (true ∷ g))) ≡ suc (length g) + k
  length-term a k = simp (length-append, length-replicate, length-map)

  length-headed : (a : Bool) (q : Poly) → length (headed (a ∷ q)) ≡ suc (length g) + length q
  unfolding headed
  length-headed a [] = length-sum (times 0 (map (λ b. a && b) (true ∷ g))) (false ∷ []) (omega (arith, length-term a 0)) ∙ length-term a 0
  length-headed a (c ∷ q) =
      length-sum (times (suc (length q)) (map (λ b. a && b) (true ∷ g))) (false ∷ headed (c ∷ q)) (omega (arith, length-term a (suc (length q)), length-headed c q))
      ∙ length-term a (suc (length q))

  product-headed : (q : Poly) → product q (true ∷ g) ≡ headed q
  unfolding product headed
  product-headed [] = refl
  product-headed (a ∷ []) =
      let t = times 0 (map (λ b. a && b) (true ∷ g)) in
      add-shorter (length t) t [] (omega arith) ∙ sum-none (length t) t (omega arith) ∙ sym (sum-none 1 t (omega (arith, length-term a 0)))
  product-headed (a ∷ c ∷ q) =
      let t = times (suc (length q)) (map (λ b. a && b) (true ∷ g)) in
      ap (add t) (product-headed (c ∷ q)) ∙ add-shorter 1 t (headed (c ∷ q)) (omega (arith, length-term a (suc (length q)), length-headed c q))

  -- ---- the division

  -- k steps: a quotient of k coefficients, and what is left
  record Divided (k : ℕ) (p : Poly) : Type 0 where
    q : Poly
    size : length q ≡ k
    whole : p ≡ sum (headed q) (replicate k false ++ divide (true ∷ g) k p)
    left : length (divide (true ∷ g) k p) + k ≡ length p

  divided : (k : ℕ) (p : Poly) → k + length g ≤ length p → Divided k p
  unfolding divide headed
  divided zero p h = record { q = []; size = refl; whole = refl; left = omega arith }
  divided (suc k) [] h = absurd (omega arith)
  divided (suc k) (false ∷ p) h =
      let d : Divided k p = divided k p (omega arith) in
      let r = divide (true ∷ g) k p in
      record {
        q = false ∷ d.q;
        size = ap suc d.size;
        whole = sym
            (sum-assoc (times (length d.q) (map (λ b. false && b) (true ∷ g))) (false ∷ headed d.q) (false ∷ (replicate k false ++ r))
            ∙ ap₂ sum (never (length d.q) (true ∷ g)) (ap (λ (l : Poly). false ∷ l) (sym d.whole))
            ∙ sum_zeros (length (true ∷ g) + length d.q) (false ∷ p) (omega (arith, d.size)));
        left = omega (arith, d.left);
      }
  divided (suc k) (true ∷ p) h =
      let l : length (sum p g) ≡ length p = length-sum p g (omega arith) in
      let d : Divided k (sum p g) = divided k (sum p g) (omega arith) in
      let r = divide (true ∷ g) k (sum p g) in
      record {
        q = true ∷ d.q;
        size = ap suc d.size;
        whole = sym
            (sum-assoc (times (length d.q) (map (λ b. true && b) (true ∷ g))) (false ∷ headed d.q) (false ∷ (replicate k false ++ r))
            ∙ ap₂ sum (ap (times (length d.q)) (once (true ∷ g))) (ap (λ (m : Poly). false ∷ m) (sym d.whole))
            ∙ ap (λ (m : Poly). true ∷ m) (sum-cancel (length d.q) g p (omega (arith, d.size))));
        left = omega (arith, d.left, l);
      }

  with-quotient : (k : ℕ) (q r : Poly) → length q ≡ suc k → length r ≡ length g
      → add (product q (true ∷ g)) r ≡ sum (headed q) (replicate (suc k) false ++ r)
  with-quotient k [] r e l = absurd (omega arith)
  with-quotient k (a ∷ q) r e l =
      ap (λ (x : Poly). add x r) (product-headed (a ∷ q)) ∙ add-shorter (suc k) (headed (a ∷ q)) r (omega (arith, length-headed a q))

  division : (k : ℕ) (p : Poly) → k ≡ length p - length g → IsRemainder p (true ∷ g) (divide (true ∷ g) k p)
  unfolding divide product
  division zero p e = record { quotient = []; whole = sym (add_none p); lower = omega arith }
  division (suc k) p e =
      let d : Divided (suc k) p = divided (suc k) p (omega arith) in
      record {
        quotient = d.q;
        whole = d.whole ∙ sym (with-quotient k d.q (divide (true ∷ g) (suc k) p) d.size (omega (arith, d.left)));
        lower = omega (arith, d.left);
      }

  -- of every polynomial, by every divisor whose highest coefficient is 1
  pub remainder_is : (p : Poly) → IsRemainder p (true ∷ g) (remainder p (true ∷ g))
  unfolding remainder
  remainder_is p = division (length p - length g) p refl

pub remainder-by-generator : (p : Poly) → IsRemainder p generator (remainder p generator)
unfolding is_in
remainder-by-generator p = remainder_is (rest generator) p
