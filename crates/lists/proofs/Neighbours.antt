-- How often a value stands in a list: at most at every second place if never at two neighbours, and at no fewer if at each even place. Assumes nothing.
use Prim.Native.Nat.{ℕ, suc, ◌+◌, ◌*◌, ◌≤◌, ◌<◌, suc-le-suc, zero-le}
use mathlib.Core.Path.{◌≡◌, refl, sym, ap, ◌∙◌}
use mathlib.Core.Bool.{Bool, true, false}
use mathlib.Core.List.{List, [], ◌∷◌}
use native.Mathlib.Omega.{arith}
use borrow.Author.Tests.{eq-eqb, eqb-true}
use lib.Dec.{eqb}
use lib.ListN.{length, get_or}
use Rattle.lists.specs.Cases.{flag}
use Rattle.lists.specs.Counts.{count}
use Rattle.lists.proofs.Picks.{flag-le}
use Rattle.lists.proofs.Count.{count-le}

not-both : (a b : Bool) → (a ≡ true → b ≡ true → ⊥) → flag a + flag b ≤ 1
not-both true true f = absurd (f refl refl)
not-both true false f = omega arith
not-both false b f = omega (arith, flag-le b)

pub count-apart : (v : ℕ) (l : List ℕ) → ((i : ℕ) → suc i < length l → get_or l i 0 ≡ v → get_or l (suc i) 0 ≡ v → ⊥) → 2 * count v l ≤ length l + 1
unfolding count
count-apart v [] apart = omega arith
count-apart v (x ∷ []) apart = omega (arith, count-le v (x ∷ []))
count-apart v (x ∷ y ∷ l) apart =
    let two : flag (eqb v x) + flag (eqb v y) ≤ 1 =
    not-both (eqb v x) (eqb v y) (λ a b. apart 0 (omega arith) (sym (eqb-true v x a)) (sym (eqb-true v y b))) in
    omega (arith, two, count-apart v l (λ i h. apart (suc (suc i)) (suc-le-suc (suc-le-suc h))))

pub count-even : (v : ℕ) (l : List ℕ) → ((i : ℕ) → 2 * i < length l → get_or l (2 * i) 0 ≡ v) → length l ≤ 2 * count v l
unfolding count
count-even v [] even = zero-le
count-even v (x ∷ []) even = omega (arith, ap flag (eq-eqb v x (sym (even 0 (omega arith)))))
count-even v (x ∷ y ∷ l) even =
    let here : flag (eqb v x) ≡ 1 = ap flag (eq-eqb v x (sym (even 0 (omega arith)))) in
    let next : (i : ℕ) → 2 * suc i ≡ suc (suc (2 * i)) = λ i. omega arith in
    omega (arith, here, count-even v l (λ i h. ap (λ (n : ℕ). get_or (x ∷ y ∷ l) n 0) (sym (next i)) ∙ even (suc i) (omega arith)))
