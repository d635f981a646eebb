-- Laws of the test that every element is x, for a list looked at in blocks. Assumes nothing.
use Prim.Native.Nat.{ℕ}
use mathlib.Core.Path.{◌≡◌, refl, sym, ap, subst, ◌∙◌}
use mathlib.Core.Bool.{Bool, true, false}
use mathlib.Core.List.{List, [], ◌∷◌, ◌++◌}
use native.Mathlib.Omega.{arith}
use lib.Dec.{eqb}
use denote.Ref.{Bor}
use denote.Param.Members.{Mut}
use Rattle.std.specs.Fn.{Called}
use Rattle.std.specs.Iterator.{Yields}
use Rattle.std.specs.List.{FoldsTo}
use Rattle.std.specs.Option.{MatchOption}
use Rattle.std.proofs.lemmas.Bool.Decides.{nat_tests}
use Rattle.std.specs.Prelude.{Option, Some, None, ◌&&◌}
use lib.ListN.{length}
use Rattle.lists.specs.Cases.{pick}
use Rattle.lists.specs.Counts.{all_are}

pub are-append : (x : ℕ) (a b : List ℕ) → all_are x (a ++ b) ≡ pick (all_are x a) (all_are x b) false
unfolding all_are
are-append x [] b = refl
are-append x (y ∷ a) b = go (eqb x y) (are-append x a b)
  where
    go :
        (t : Bool)
        → all_are x (a ++ b) ≡ pick (all_are x a) (all_are x b) false
        → pick t (all_are x (a ++ b)) false ≡ pick (pick t (all_are x a) false) (all_are x b) false
    go true e = e
    go false e = refl

eqb_swap : (a b : ℕ) → eqb a b ≡ eqb b a
eqb_swap a b = grind (arith, nat_tests)

pub are-push : (x : ℕ) (l : List ℕ) (y : ℕ) → all_are x (l ++ (y ∷ [])) ≡ (all_are x l && eqb y x)
unfolding all_are
are-push x [] y = go (eqb x y) (eqb y x) (eqb_swap x y)
  where
    go : (a b : Bool) → a ≡ b → pick a true false ≡ (true && b)
    go true b e = e
    go false b e = e
are-push x (z ∷ l) y = go (eqb x z) (are-push x l y)
  where
    go : (t : Bool) → all_are x (l ++ (y ∷ [])) ≡ (all_are x l && eqb y x) → pick t (all_are x (l ++ (y ∷ []))) false ≡ (pick t (all_are x l) false && eqb y x)
    go true e = e
    go false e = refl

are-past_block : (x : ℕ) (a b : List ℕ) → true ≡ all_are x a → all_are x (a ++ b) ≡ all_are x b
are-past_block x a b e = are-append x a b ∙ ap (λ (t : Bool). pick t (all_are x b) false) (sym e)

are-not_block : (x : ℕ) (a b : List ℕ) → false ≡ all_are x a → all_are x (a ++ b) ≡ false
are-not_block x a b e = are-append x a b ∙ ap (λ (t : Bool). pick t (all_are x b) false) (sym e)

are-none : (x : ℕ) (l : List ℕ) → length l ≡ 0 → all_are x l ≡ true
unfolding all_are
are-none x [] e = refl
are-none x (y ∷ l) e = absurd (omega arith)

-- a list that is taken block by block, as long as the blocks are x alone: `rest` says what is left of it
module _ {S F : Type 0} (x : ℕ) (steps : S → Option (Bor (List ℕ)) → S → Type 0) (rest : S → List ℕ) (g : Mut F (Bor (List ℕ) × Unit {0}) Bool) (f : F) where
  module _
      (none : (s t : S) → steps s None t → length (rest s) ≡ 0)
      (some : (s : S) (b : Bor (List ℕ)) (t : S) → steps s (Some b) t → rest s ≡ b.now ++ rest t)
      (call : (b : Bor (List ℕ)) (r : Bool) (h : F) → Called g f (b, tt) r h → (h ≡ f) × (r ≡ all_are x b.now))
    where
      pub blocks-are : (bs : List (Bor (List ℕ))) (s t u : S) (o : Option (Bor (List ℕ))) (j : F) (r : Bool)
          → Yields steps s bs t → steps t o u → FoldsTo (λ p b q. Called g p (b, tt) true q) f bs j
          → MatchOption o (r ≡ true) (λ b. (r ≡ false) × ((h : F) × Called g j (b, tt) false h))
          → r ≡ all_are x (rest s)
      blocks-are [] s t u None j r y e k m = m ∙ sym (are-none x (rest s) (none s u (subst (λ v. steps v None u) (sym y) e)))
      blocks-are [] s t u (Some b) j r y e k m =
          let no : false ≡ all_are x b.now = (call b false m.1.0 (subst (λ p. Called g p (b, tt) false m.1.0) (sym k) m.1.1)).1 in
          m.0 ∙ sym (ap (all_are x) (some s b u (subst (λ v. steps v (Some b) u) (sym y) e)) ∙ are-not_block x b.now (rest u) no)
      blocks-are (b ∷ bs) s t u o j r y e k m =
          let c = call b true k.0 k.1 in
          blocks-are bs y.0 t u o j r y.2 e (subst (λ p. FoldsTo (λ p b q. Called g p (b, tt) true q) p bs j) c.0 k.2) m
          ∙ sym (ap (all_are x) (some s b y.0 y.1) ∙ are-past_block x b.now (rest y.0) c.1)
