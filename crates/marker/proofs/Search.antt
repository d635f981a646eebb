-- Laws of the marker search, and what it finds: a place where every byte of the marker stands. Assumes nothing.
use Prim.Native.Nat.{ℕ, zero, suc, ◌+◌, ◌≤◌, ◌<◌}
use mathlib.Core.Path.{◌≡◌, refl, sym, ap, ap₂, subst, ◌∙◌}
use mathlib.Core.Bool.{Bool, true, false}
use mathlib.Core.List.{List, [], ◌∷◌}
use mathlib.Core.Logic.{◌↔◌}
use native.Mathlib.Nat.{not-suc-le-zero, le_of_suc-le-suc}
use native.Mathlib.Omega.{arith}
use borrow.Author.Tests.{eq-eqb, eqb-true}
use lib.Dec.{eqb}
use lib.ListN.{length, get_or, take, drop}
use denote.Ref.{Bor}
use denote.Param.Members.{Mut}
use Rattle.std.specs.Fn.{Called}
use Rattle.std.specs.Iterator.{Yields}
use Rattle.std.specs.List.{FoldsTo}
use Rattle.std.specs.Option.{MatchOption}
use Rattle.std.specs.Prelude.{Option, Some, None}
use Rattle.lists.specs.Cases.{pick}
use Rattle.lists.proofs.Picks.{never_both}
use Rattle.marker.specs.Marker.{starts_with, occurs_in}

-- bytes begin with m where their first bytes are those of m, and there alone
starts-take : (m s : List ℕ) → take (length m) s ≡ m → starts_with m s ≡ true
unfolding starts_with
starts-take [] s e = refl
starts-take (x ∷ m) [] e = absurd (omega (arith, ap length e))
starts-take (x ∷ m) (y ∷ s) e =
    let first : x ≡ y = cc in
    let others : take (length m) s ≡ m = cc in
    rw (eq-eqb x y first) (starts-take m s others)

take-starts : (m s : List ℕ) → starts_with m s ≡ true → take (length m) s ≡ m
unfolding starts_with
take-starts [] s e = refl
take-starts (x ∷ m) [] e = absurd (never_both refl e)
take-starts (x ∷ m) (y ∷ s) e = go (eqb x y) refl (take-starts m s) e
  where
    go : (t : Bool) → eqb x y ≡ t → (starts_with m s ≡ true → take (length m) s ≡ m) → pick t (starts_with m s) false ≡ true → y ∷ take (length m) s ≡ x ∷ m
    go true q ih r = ap₂ (λ (z : ℕ) (l : List ℕ). z ∷ l) (sym (eqb-true x y q)) (ih r)
    go false q ih r = absurd (never_both refl r)

starts-short : (m s : List ℕ) → length s < length m → starts_with m s ≡ false
unfolding starts_with
starts-short [] s h = absurd (omega arith)
starts-short (x ∷ m) [] h = refl
starts-short (x ∷ m) (y ∷ s) h = go (eqb x y) (starts-short m s (omega arith))
  where
    go : (t : Bool) → starts_with m s ≡ false → pick t (starts_with m s) false ≡ false
    go true e = e
    go false e = refl

pub occurs-empty : (m s : List ℕ) → length m ≡ 0 → occurs_in m s ≡ true
unfolding occurs_in starts_with
occurs-empty [] [] e = refl
occurs-empty [] (y ∷ s) e = refl
occurs-empty (x ∷ m) s e = absurd (omega arith)

occurs-short : (m s : List ℕ) → length s < length m → occurs_in m s ≡ false
unfolding occurs_in
occurs-short m [] h = starts-short m [] h
occurs-short m (y ∷ s) h = rw (starts-short m (y ∷ s) h) (occurs-short m s (omega arith))

-- the first bytes are those of m, or the search goes on behind the first of them
occurs-here : (m s : List ℕ) → take (length m) s ≡ m → occurs_in m s ≡ true
unfolding occurs_in
occurs-here m [] e = starts-take m [] e
occurs-here m (y ∷ s) e = rw (starts-take m (y ∷ s) e)

occurs-past : (m s : List ℕ) → 0 < length s → (take (length m) s ≡ m → ⊥) → occurs_in m s ≡ occurs_in m (drop 1 s)
unfolding occurs_in
occurs-past m [] h n = absurd (omega arith)
occurs-past m (y ∷ s) h n = go (starts_with m (y ∷ s)) refl
  where
    go : (t : Bool) → starts_with m (y ∷ s) ≡ t → pick t true (occurs_in m s) ≡ occurs_in m s
    go true e = absurd (n (take-starts m (y ∷ s) e))
    go false e = refl

-- bytes that are searched window by window, until one is m: `rest` says what is left of them
module _ {S F : Type 0} (m : List ℕ) (some_m : 0 < length m) (steps : S → Option (Bor (List ℕ)) → S → Type 0) (rest : S → List ℕ) (size : S → ℕ) where
  module _
      (g : Mut F (Bor (List ℕ) × Unit {0}) Bool)
      (f : F)
      (none : (s t : S) → steps s None t → length (rest s) < size s)
      (some : (s : S) (b : Bor (List ℕ)) (t : S) → steps s (Some b) t
      → (size t ≡ size s) × (size s ≤ length (rest s)) × (b.now ≡ take (size s) (rest s)) × (rest t ≡ drop 1 (rest s)))
      (hit : (b : Bor (List ℕ)) (h : F) → Called g f (b, tt) true h → b.now ≡ m)
      (miss : (b : Bor (List ℕ)) (h : F) → Called g f (b, tt) false h → (h ≡ f) × (b.now ≡ m → ⊥))
    where
      pub windows-occur : (bs : List (Bor (List ℕ))) (s t u : S) (o : Option (Bor (List ℕ))) (j : F) (r : Bool)
          → size s ≡ length m → Yields steps s bs t → steps t o u → FoldsTo (λ p b q. Called g p (b, tt) false q) f bs j
          → MatchOption o (r ≡ false) (λ b. (r ≡ true) × ((h : F) × Called g j (b, tt) true h))
          → r ≡ occurs_in m (rest s)
      windows-occur [] s t u None j r n y e k q =
          let short : length (rest s) < size s = none s u (subst (λ v. steps v None u) (sym y) e) in
          q ∙ sym (occurs-short m (rest s) (omega arith))
      windows-occur [] s t u (Some b) j r n y e k q =
          let w = some s b u (subst (λ v. steps v (Some b) u) (sym y) e) in
          let is : b.now ≡ m = hit b q.1.0 (subst (λ p. Called g p (b, tt) true q.1.0) (sym k) q.1.1) in
          q.0 ∙ sym (occurs-here m (rest s) (ap (λ (i : ℕ). take i (rest s)) (sym n) ∙ sym w.2 ∙ is))
      windows-occur (b ∷ bs) s t u o j r n y e k q =
          let w = some s b y.0 y.1 in
          let no = miss b k.0 k.1 in
          let other : take (length m) (rest s) ≡ m → ⊥ = λ z. no.1 (w.2 ∙ ap (λ (i : ℕ). take i (rest s)) n ∙ z) in
          let room : size s ≤ length (rest s) = w.1 in
          windows-occur bs y.0 t u o j r (w.0 ∙ n) y.2 e (subst (λ p. FoldsTo (λ p b q. Called g p (b, tt) false q) p bs j) no.0 k.2) q
          ∙ ap (occurs_in m) w.3
          ∙ sym (occurs-past m (rest s) (omega arith) other)

at_same : (l : List ℕ) (i j : ℕ) → i ≡ j → get_or l i 0 ≡ get_or l j 0
at_same l i j e = ap (λ (i : ℕ). get_or l i 0) e

pick-either : (t : Bool) {b : Bool} → b ≡ true → pick t true b ≡ true
pick-either true e = refl
pick-either false e = e

-- every byte of m stands in s, from a place on
pub record Stands (m s : List ℕ) (at : ℕ) : Type 0 where
  pub inside : at + length m ≤ length s
  pub bytes : (k : ℕ) → k < length m → get_or s (at + k) 0 ≡ get_or m k 0

module _ (x : ℕ) (m : List ℕ) (y : ℕ) (s : List ℕ) where
  stands-first : x ≡ y → Stands m s 0 → Stands (x ∷ m) (y ∷ s) 0
  stands-first e t = record { inside = omega (arith, t.inside); bytes = go }
    where
      go : (k : ℕ) → k < suc (length m) → get_or (y ∷ s) (0 + k) 0 ≡ get_or (x ∷ m) k 0
      go zero h = sym e
      go (suc k) h = at_same (y ∷ s) (0 + suc k) (suc (0 + k)) (omega arith) ∙ t.bytes k (le_of_suc-le-suc h)

  stands-rest : Stands (x ∷ m) (y ∷ s) 0 → Stands m s 0
  stands-rest t = record { inside = omega (arith, t.inside); bytes = λ k h. at_same (y ∷ s) (suc (0 + k)) (0 + suc k) (omega arith) ∙ t.bytes (suc k) (omega arith) }

-- bytes that begin with m have it at place 0, and the other way round
starts-stands : (m s : List ℕ) → starts_with m s ≡ true → Stands m s 0
unfolding starts_with
starts-stands [] s e = record { inside = omega arith; bytes = λ k h. absurd (not-suc-le-zero h) }
starts-stands (x ∷ m) [] e = absurd (never_both refl e)
starts-stands (x ∷ m) (y ∷ s) e = go (eqb x y) refl (starts-stands m s) e
  where
    go : (t : Bool) → eqb x y ≡ t → (starts_with m s ≡ true → Stands m s 0) → pick t (starts_with m s) false ≡ true → Stands (x ∷ m) (y ∷ s) 0
    go true q ih r = stands-first x m y s (eqb-true x y q) (ih r)
    go false q ih r = absurd (never_both refl r)

stands-starts : (m s : List ℕ) → Stands m s 0 → starts_with m s ≡ true
unfolding starts_with
stands-starts [] s t = refl
stands-starts (x ∷ m) [] t = absurd (omega (arith, t.inside))
stands-starts (x ∷ m) (y ∷ s) t = rw (eq-eqb x y (sym (t.bytes 0 (omega arith)))) (stands-starts m s (stands-rest x m y s t))

-- m occurs just where it stands at some place
occurs-stands : (m s : List ℕ) → occurs_in m s ≡ true → (at : ℕ) × Stands m s at
unfolding occurs_in
occurs-stands m [] e = (0, starts-stands m [] e)
occurs-stands m (y ∷ s) e = go (starts_with m (y ∷ s)) refl (occurs-stands m s) e
  where
    later : (at : ℕ) → Stands m s at → Stands m (y ∷ s) (suc at)
    later at t = record { inside = omega (arith, t.inside); bytes = λ k h. at_same (y ∷ s) (suc at + k) (suc (at + k)) (omega arith) ∙ t.bytes k h }

    go : (t : Bool) → starts_with m (y ∷ s) ≡ t → (occurs_in m s ≡ true → (at : ℕ) × Stands m s at) → pick t true (occurs_in m s) ≡ true → (at : ℕ) × Stands m (y ∷ s) at
    go true q ih r = (0, starts-stands m (y ∷ s) q)
    go false q ih r = (suc (ih r).0, later (ih r).0 (ih r).1)

stands-occurs : (m s : List ℕ) (at : ℕ) → Stands m s at → occurs_in m s ≡ true
unfolding occurs_in
stands-occurs m [] zero t = stands-starts m [] t
stands-occurs m [] (suc at) t = absurd (omega (arith, t.inside))
stands-occurs m (y ∷ s) zero t = rw (stands-starts m (y ∷ s) t)
stands-occurs m (y ∷ s) (suc at) t = pick-either (starts_with m (y ∷ s)) (stands-occurs m s at earlier)
  where
    earlier : Stands m s at
    earlier = record { inside = omega (arith, t.inside); bytes = λ k h. at_same (y ∷ s) (suc (at + k)) (suc at + k) (omega arith) ∙ t.bytes k h }

pub occurs-iff : (m s : List ℕ) → (occurs_in m s ≡ true) ↔ ((at : ℕ) × Stands m s at)
occurs-iff m s = (occurs-stands m s, λ p. stands-occurs m s p.0 p.1)
