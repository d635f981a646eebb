-- Polynomials over the numbers modulo 2: a list of the coefficients, that of the highest power of x first. Assumes nothing.
use Rattle.std.specs.Prelude.{ℕ, zero, suc, ◌-◌, ◌<◌, ◌≡◌, Bool, true, false, not, ◌&&◌, List, [], ◌∷◌, ◌++◌, map, length, replicate}
use Rattle.lists.specs.Counts.{is_in}

abbrev pub Poly : Type 0
Poly = List Bool

-- the sum of two coefficients, modulo 2; it is their difference too
abbrev pub plus : Bool → Bool → Bool
plus true b = not b
plus false b = b

-- the sum of two polynomials whose highest coefficients stand at the same power; where one ends, the other goes on
abbrev pub sum : Poly → Poly → Poly
sum [] q = q
sum (a ∷ p) [] = a ∷ p
sum (a ∷ p) (b ∷ q) = plus a b ∷ sum p q

-- x ^ k times p
abbrev pub times : ℕ → Poly → Poly
times k p = p ++ replicate k false

-- x ^ (n - 1) + .. + x + 1
abbrev pub all_ones : ℕ → Poly
all_ones n = replicate n true

-- the sum of x ^ e for each e of a list, written out from x ^ n down to x ^ 0
abbrev pub powers : ℕ → List ℕ → Poly
powers zero es = is_in 0 es ∷ []
powers (suc n) es = is_in (suc n) es ∷ powers n es

-- all but the highest coefficient
abbrev pub rest : Poly → Poly
rest [] = []
rest (a ∷ p) = p

-- k steps of the long division of p by g: where the highest coefficient is 1, g is subtracted there; it is then 0, and goes
unfoldable pub divide : Poly → ℕ → Poly → Poly
divide g zero p = p
divide g (suc k) [] = []
divide g (suc k) (false ∷ p) = divide g k p
divide g (suc k) (true ∷ p) = divide g k (rest (sum (true ∷ p) g))

-- the remainder of p divided by g: the division stops where as many coefficients are left as g has below its highest
unfoldable pub remainder : Poly → Poly → Poly
remainder p g = divide g (length p - length (rest g)) p

-- the sum of any two: zeros go before the shorter, so that equal powers stand together
unfoldable pub add : Poly → Poly → Poly
add p q = sum (replicate (length q - length p) false ++ p) (replicate (length p - length q) false ++ q)

-- the product: (a x ^ k + q) g = a x ^ k g + q g
unfoldable pub product : Poly → Poly → Poly
product [] g = []
product (a ∷ q) g = add (times (length q) (map (λ b. a && b) g)) (product q g)

-- what makes r a remainder of p divided by g: p = q g + r for some q, and r is of lower degree than g
pub record IsRemainder (p g r : Poly) : Type 0 where
  pub quotient : Poly
  pub whole : p ≡ add (product quotient g) r
  pub lower : length r < length g
