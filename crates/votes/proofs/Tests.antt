-- Laws of tests on numbers. Assumes nothing.
use Prim.Native.Nat.{ℕ, ◌+◌, ◌≤◌, ◌<◌, max, min}
use mathlib.Core.Path.{◌≡◌, refl, sym, ap, ◌∙◌}
use mathlib.Core.Bool.{Bool, true, false}
use mathlib.Core.List.{List, [], ◌∷◌}
use native.Mathlib.Decide.{ℕ_discrete}
use native.Mathlib.Omega.{arith}
use borrow.Author.Tests.{lt-ltb, le-ltb, ltb-true, ltb-false, eq-eqb, ne_eqb}
use lib.Dec.{eqb, ltb}
use Rattle.std.specs.List.{list_any}
use Rattle.lists.specs.Cases.{flag}
use Rattle.lists.specs.Counts.{is_in}

-- of two numbers the first is the smaller, or it is not
pub lt-cases : (P : Type 0) (a b : ℕ) → (a < b → P) → (b ≤ a → P) → P
lt-cases P a b f g = go (ltb a b) refl
  where
    go : (t : Bool) → ltb a b ≡ t → P
    go true e = f (ltb-true a b e)
    go false e = g (ltb-false a b e)

-- two tests that pass and fail together
pub same-ltb : (a b c d : ℕ) → (a < b → c < d) → (b ≤ a → d ≤ c) → ltb a b ≡ ltb c d
same-ltb a b c d f g = lt-cases (ltb a b ≡ ltb c d) a b (λ h. lt-ltb a b h ∙ sym (lt-ltb c d (f h))) (λ h. le-ltb a b h ∙ sym (le-ltb c d (g h)))

-- whether x is below a number, as a number: of the greater and the lesser of two it is what it is of the two
abbrev pub below : ℕ → ℕ → ℕ
below x y = flag (ltb x y)

module _ (x : ℕ) where
  pub below-yes : (y : ℕ) → x < y → below x y ≡ 1
  below-yes y h = ap flag (lt-ltb x y h)

  pub below-no : (y : ℕ) → y ≤ x → below x y ≡ 0
  below-no y h = ap flag (le-ltb x y h)

  pub below-le : (y z : ℕ) → y ≤ z → below x y ≤ below x z
  below-le y z h =
      lt-cases (below x y ≤ below x z) x y (λ k. omega (arith, below-yes y k, below-yes z (omega arith))) (λ k. omega (arith, below-no y k))

  pub below_both : (y z : ℕ) → below x (max y z) + below x (min y z) ≡ below x y + below x z
  below_both y z = lt-cases (below x (max y z) + below x (min y z) ≡ below x y + below x z) y z lower upper
    where
      lower : y < z → below x (max y z) + below x (min y z) ≡ below x y + below x z
      lower h =
          let p : max y z ≡ z = omega arith in
          let q : min y z ≡ y = omega arith in
          omega (arith, ap (below x) p, ap (below x) q)

      upper : z ≤ y → below x (max y z) + below x (min y z) ≡ below x y + below x z
      upper h =
          let p : max y z ≡ y = omega arith in
          let q : min y z ≡ z = omega arith in
          omega (arith, ap (below x) p, ap (below x) q)

-- an element that equals v: v is in the list
pub any-in : (v : ℕ) (l : List ℕ) → list_any (λ y. eqb y v) l ≡ is_in v l
unfolding is_in
any-in v [] = refl
any-in v (y ∷ l) = go (any-in v l) (ℕ_discrete v y)
  where
    go : list_any (λ y. eqb y v) l ≡ is_in v l → Dec (v ≡ y) → list_any (λ y. eqb y v) (y ∷ l) ≡ is_in v (y ∷ l)
    go rest (yes e) = rw (eq-eqb v y e, eq-eqb y v (sym e))
    go rest (no ne) = rw (ne_eqb v y ne, ne_eqb y v (λ e. ne (sym e))) rest
