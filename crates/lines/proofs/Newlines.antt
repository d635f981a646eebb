-- Where the next newline is. Assumes nothing.
use Prim.Native.Nat.{ℕ, zero, suc, ◌+◌, ◌≤◌, ◌<◌}
use mathlib.Core.Path.{◌≡◌, sym, ap, ◌∙◌}
use mathlib.Core.Bool.{Bool, true, false}
use mathlib.Core.List.{List, [], ◌∷◌}
use native.Mathlib.Nat.{not-suc-le-zero, le_of_suc-le-suc}
use native.Mathlib.Numerals.{add-one}
use native.Mathlib.Omega.{arith}
use borrow.Author.Tests.{eq-eqb, ne_eqb}
use lib.Dec.{eqb, ltb}
use denote.Ref.{Bor}
use denote.Param.Members.{Mut}
use Rattle.std.specs.Fn.{Called}
use Rattle.std.specs.Iterator.{Yields}
use Rattle.std.specs.List.{FoldsTo, list_any, position_or_len}
use Rattle.std.specs.Option.{unwrap_or, MatchOption}
use Rattle.std.proofs.Common.{zero-add, length-append, refl, subst, not, take, ◌-◌, ◌/◌, ltb-false, cond, ◌*◌, ◌||◌, ◌++◌, Option, Some, None}
use Rattle.std.proofs.lemmas.Bool.Decides.{nat_tests}
use lib.ListN.{length, drop, get_or, length-drop, drop_of_length-le}
use lib.Seq.{drop-cons, drop-drop, take_all}
use Rattle.lists.specs.Cases.{pick}
use Rattle.lines.specs.Input.{up_to}
use Rattle.lines.specs.Next.{line_end}

pub up_le : (l : List ℕ) → up_to l ≤ length l
unfolding up_to
up_le [] = omega arith
up_le (c ∷ l) = go (eqb 10 c) (up_le l)
  where
    go : (b : Bool) → up_to l ≤ length l → pick b 0 (suc (up_to l)) ≤ suc (length l)
    go true h = omega arith
    go false h = omega arith

-- with no newline among the first n
pub up-skip : (n : ℕ) (l : List ℕ) → n ≤ up_to l → up_to l ≡ n + up_to (drop n l)
unfolding up_to
up-skip zero l h = omega arith
up-skip (suc n) [] h = absurd (not-suc-le-zero h)
up-skip (suc n) (c ∷ l) h = go (eqb 10 c) h (up-skip n l)
  where
    go : (b : Bool) → suc n ≤ pick b 0 (suc (up_to l)) → (n ≤ up_to l → up_to l ≡ n + up_to (drop n l)) → pick b 0 (suc (up_to l)) ≡ suc n + up_to (drop n l)
    go true h f = absurd (not-suc-le-zero h)
    go false h f = omega (arith, f (le_of_suc-le-suc h))

-- from one place on and from the next
module _ (l : List ℕ) (i : ℕ) where
  pub end-past : i < length l → (get_or l i 0 ≡ 10 → ⊥) → line_end l i ≡ line_end l (i + 1)
  unfolding up_to line_end
  end-past h n =
      let e : drop i l ≡ get_or l i 0 ∷ drop (suc i) l = drop-cons l i 0 h in
      rw (e, ne_eqb 10 (get_or l i 0) (λ q. n (sym q)), add-one i) (omega arith)

  pub end-here : i < length l → get_or l i 0 ≡ 10 → line_end l i ≡ i
  unfolding up_to line_end
  end-here h q =
      let e : drop i l ≡ get_or l i 0 ∷ drop (suc i) l = drop-cons l i 0 h in
      rw (e, eq-eqb 10 (get_or l i 0) (sym q)) (omega arith)

  pub end_none : length l ≤ i → line_end l i ≡ i
  unfolding up_to line_end
  end_none h = rw (drop_of_length-le l {i = i} h) (omega arith)

  pub end-skip : (n : ℕ) → n ≤ up_to (drop i l) → line_end l i ≡ line_end l (i + n)
  unfolding line_end
  end-skip n h =
      let d : up_to (drop n (drop i l)) ≡ up_to (drop (i + n) l) = ap up_to (drop-drop n i l) in
      omega (arith, up-skip n (drop i l) h)

  pub end-above : i ≤ line_end l i
  unfolding line_end
  end-above = omega arith

  pub end_below : i ≤ length l → line_end l i ≤ length l
  unfolding line_end
  end_below h = omega (arith, up_le (drop i l), length-drop i l)

-- the place of the first newline, as the library finds it
eqb_swap : (a b : ℕ) → eqb a b ≡ eqb b a
eqb_swap a b = grind (arith, nat_tests)

up_position : (l : List ℕ) → position_or_len (λ c. eqb c 10) l ≡ up_to l
unfolding up_to
up_position [] = refl
up_position (c ∷ l) = go (eqb c 10) (eqb 10 c) (eqb_swap c 10) (up_position l)
  where
    go : (b d : Bool) → b ≡ d → position_or_len (λ c. eqb c 10) l ≡ up_to l → cond (not b) (1 + position_or_len (λ c. eqb c 10) l) 0 ≡ pick d 0 (suc (up_to l))
    go true true e ih = refl
    go false false e ih = omega arith
    go true false e ih = cc
    go false true e ih = cc

pub up-found : (l : List ℕ) (r : Option ℕ) → r ≡ cond (ltb (position_or_len (λ c. eqb c 10) l) (length l)) (Some (position_or_len (λ c. eqb c 10) l)) None → unwrap_or r (length l) ≡ up_to l
up-found l r e = ap (λ (o : Option ℕ). unwrap_or o (length l)) e ∙ go (ltb (position_or_len (λ c. eqb c 10) l) (length l)) refl
  where
    go : (b : Bool) → ltb (position_or_len (λ c. eqb c 10) l) (length l) ≡ b → unwrap_or (cond b (Some (position_or_len (λ c. eqb c 10) l)) None) (length l) ≡ up_to l
    go true k = up_position l
    go false k = omega (arith, ltb-false _ _ k, up_position l, up_le l)

-- characters that are looked at in groups, as long as there is no newline in one: `rest` says what is left of them
up-group : (a l : List ℕ) → list_any (λ y. eqb y 10) a ≡ false → up_to (a ++ l) ≡ length a + up_to l
unfolding up_to
up-group [] l e = sym (zero-add (up_to l))
up-group (c ∷ a) l e = go (eqb c 10) (eqb 10 c) (eqb_swap c 10) e (up-group a l)
  where
    go :
        (b d : Bool)
        → b ≡ d
        → (b || list_any (λ y. eqb y 10) a) ≡ false
        → (list_any (λ y. eqb y 10) a ≡ false → up_to (a ++ l) ≡ length a + up_to l)
        → pick d 0 (suc (up_to (a ++ l))) ≡ suc (length a) + up_to l
    go true d e k ih = cc
    go false true e k ih = cc
    go false false e k ih = omega (arith, ih k)

module _ {S F : Type 0} (steps : S → Option (Bor (List ℕ)) → S → Type 0) (rest : S → List ℕ) (size : S → ℕ) (g : Mut F (Bor (List ℕ) × Unit {0}) Bool) (f : F) where
  module _
      (some : (s : S) (b : Bor (List ℕ)) (t : S) → steps s (Some b) t → (size t ≡ size s) × (rest s ≡ b.now ++ rest t) × (length b.now ≡ size s))
      (call : (b : Bor (List ℕ)) (h : F) → Called g f (b, tt) false h → (h ≡ f) × (list_any (λ y. eqb y 10) b.now ≡ false))
    where
      pub groups-pass : (bs : List (Bor (List ℕ))) (s t : S) (j : F) → size s ≡ 64 → Yields steps s bs t → FoldsTo (λ p b q. Called g p (b, tt) false q) f bs j
          → (64 * length bs ≤ up_to (rest s)) × (length (rest s) ≡ 64 * length bs + length (rest t)) × (size t ≡ 64)
      groups-pass [] s t j n y k = (omega arith, ap (λ (u : S). length (rest u)) y ∙ omega arith, ap size (sym y) ∙ n)
      groups-pass (b ∷ bs) s t j n y k =
          let w = some s b y.0 y.1 in
          let no = call b k.0 k.1 in
          let more = groups-pass bs y.0 t j (w.0 ∙ n) y.2 (subst (λ p. FoldsTo (λ p b q. Called g p (b, tt) false q) p bs j) no.0 k.2) in
          let up : up_to (rest s) ≡ length b.now + up_to (rest y.0) = ap up_to w.1 ∙ up-group b.now (rest y.0) no.1 in
          let long : length (rest s) ≡ length b.now + length (rest y.0) = ap length w.1 ∙ length-append b.now (rest y.0) in
          let here : length b.now ≡ 64 = w.2 ∙ n in
          (omega (arith, more.0), omega (arith, more.1), more.2)

      pub groups-found : ((s t : S) → steps s None t → length (rest s) < size s)
          → (bs : List (Bor (List ℕ))) (s t u : S) (o : Option (Bor (List ℕ))) (j : F) (r : Option ℕ) (k : ℕ)
          → size s ≡ 64 → Yields steps s bs t → steps t o u → FoldsTo (λ p b q. Called g p (b, tt) false q) f bs j
          → MatchOption o (r ≡ None) (λ b. (r ≡ Some (length bs)) × ((h : F) × Called g j (b, tt) true h))
          → k ≡ unwrap_or r (length (rest s) / 64)
          → 64 * k ≤ up_to (rest s)
      groups-found none bs s t u None j r k n y e c m v =
          let p = groups-pass bs s t j n y c in
          let few : length (rest t) < size t = none t u e in
          omega (arith, p.0, p.1, p.2, v ∙ ap (λ (o : Option ℕ). unwrap_or o (length (rest s) / 64)) m)
      groups-found none bs s t u (Some b) j r k n y e c m v =
          let p = groups-pass bs s t j n y c in
          omega (arith, p.0, v ∙ ap (λ (o : Option ℕ). unwrap_or o (length (rest s) / 64)) m.0)

-- the end of a line, by the characters that were passed and those up to the newline behind them
tail-part : (l : List ℕ) (i : ℕ) → take (length l - i) (drop i l) ≡ drop i l
tail-part l i = take_all (length l - i) (drop i l) (simp length-drop (omega arith))

pub end-parts : (l d : List ℕ) (i s u : ℕ) → d ≡ take (length l - i) (drop i l) → up_to d ≡ s + up_to (drop s d) → u ≡ up_to (take (length d - s) (drop s d)) → i + s + u ≡ line_end l i
unfolding line_end
end-parts l d i s u e p q = omega (arith, p, q ∙ ap up_to (tail-part d s), ap up_to (e ∙ tail-part l i))
