-- An array of slots that breaks off: how it begins, and the pair that fails. Assumes nothing.
use Prim.Native.Nat.{ℕ, zero, suc, ◌+◌, ◌-◌, ◌*◌, ◌≤◌, ◌<◌, min}
use mathlib.Core.Path.{◌≡◌, refl, sym, ap, subst, ◌∙◌}
use mathlib.Core.List.{List, [], ◌∷◌}
use mathlib.Core.Logic.{◌⊎◌, inl, inr}
use mathlib.Core.Bool.{Bool, true, false, ◌&&◌}
use native.Mathlib.Omega.{arith}
use native.Mathlib.Nat.{not-suc-le-zero}
use lib.ListN.{length, get_or}
use lib.Dec.{ltb, leb, eqb}
use borrow.Author.Tests.{eqb-false, ltb-false, leb-true, leb-false}
use Rattle.lists.specs.Cases.{pick}
use Rattle.lists.specs.Bytes.{pair_at}
use Rattle.slots.specs.Slots.{is_offset, words_from, falling, opening, slots_at, live_of}
use Rattle.slots.proofs.Words.{words_step, offset-pos, slots-few}
use Rattle.preludes.specs.Preludes.{data_end, declared_slots}
use Rattle.preludes.specs.Starts.{last_live, Breaks, Fails}

-- no more live slots than slots
pub live-few : (l : List ℕ) → live_of l ≤ length l
unfolding live_of
live-few [] = omega arith
live-few (zero ∷ l) = let h : live_of l ≤ length l = live-few l in omega arith
live-few (suc x ∷ l) = let h : live_of l ≤ length l = live-few l in omega arith

last-live : (prev w : ℕ) (l : List ℕ) → (w ≡ 0 → ⊥) → last_live w l ≡ last_live prev (w ∷ l)
unfolding last_live
last-live prev zero l n = absurd (n refl)
last-live prev (suc x) l n = refl

-- w is no slot behind one of value prev
abbrev Ends : ℕ → ℕ → Type 0
Ends prev w = (w ≡ 0 → ⊥) × ((is_offset w ≡ false) ⊎ (prev ≤ w))

-- what was taken of the pairs ws ends at a pair that is no slot, if it is not all of them
abbrev Ended : ℕ → List ℕ → List ℕ → Type 0
Ended prev ws l = length l < length ws → Ends (last_live prev l) (get_or ws (length l) 0)

falling-ends : (prev : ℕ) (ws : List ℕ) → Ended prev ws (falling prev ws)
unfolding falling last_live
falling-ends prev [] = λ h. absurd (not-suc-le-zero h)
falling-ends prev (w ∷ ws) = go (eqb w 0) refl (is_offset w) refl (ltb w prev) refl (falling-ends prev ws) (falling-ends w ws)
  where
    go :
        (b : Bool) → eqb w 0 ≡ b → (o : Bool) → is_offset w ≡ o → (d : Bool) → ltb w prev ≡ d → Ended prev ws (falling prev ws) → Ended w ws (falling w ws)
        → Ended prev (w ∷ ws) (pick b (0 ∷ falling prev ws) (pick (o && d) (w ∷ falling w ws) []))
    go true qb o qo d qd same next = λ h. same (omega arith)
    go false qb true qo true qd same next =
        λ h. subst (λ (k : ℕ). Ends k (get_or ws (length (falling w ws)) 0)) (last-live prev w (falling w ws) (offset-pos w qo)) (next (omega arith))
    go false qb true qo false qd same next = λ h. (eqb-false w 0 qb, inr (ltb-false w prev qd))
    go false qb false qo d qd same next = λ h. (eqb-false w 0 qb, inl qo)

opening-ends : (ws : List ℕ) → 0 < length (opening ws) → Ended 0xFF0 ws (opening ws)
unfolding opening
opening-ends [] pos = λ h. absurd (not-suc-le-zero h)
opening-ends (w ∷ ws) pos = go (is_offset w) refl pos
  where
    go : (b : Bool) → is_offset w ≡ b → 0 < length (pick b (w ∷ falling w ws) []) → Ended 0xFF0 (w ∷ ws) (pick b (w ∷ falling w ws) [])
    go true q pos =
        λ h. subst (λ (k : ℕ). Ends k (get_or ws (length (falling w ws)) 0)) (last-live 0xFF0 w (falling w ws) (offset-pos w q)) (falling-ends w ws (omega arith))
    go false q pos = absurd (not-suc-le-zero pos)

opening-begins : (ws : List ℕ) → 0 < length (opening ws) → is_offset (get_or ws 0 0) ≡ true
unfolding opening
opening-begins [] pos = absurd (not-suc-le-zero pos)
opening-begins (w ∷ ws) pos = go (is_offset w) refl pos
  where
    go : (b : Bool) → is_offset w ≡ b → 0 < length (pick b (w ∷ falling w ws) []) → is_offset w ≡ true
    go true q pos = q
    go false q pos = absurd (not-suc-le-zero pos)

-- the pairs from a position on, by their places
words-at :
    (lim : ℕ) (p : List ℕ) (k at : ℕ) → lim ≤ length p → at + 2 * k + 1 < lim
    → (k < length (words_from lim p at)) × (get_or (words_from lim p at) k 0 ≡ pair_at p (at + 2 * k))
words-at lim p zero at le h =
    let e : words_from lim p at ≡ pair_at p at ∷ words_from lim p (at + 2) = words_step lim p at le (omega arith) in
    let z : at ≡ at + 2 * 0 = omega arith in
    rw e (omega arith, ap (pair_at p) z)
words-at lim p (suc k) at le h =
    let e : words_from lim p at ≡ pair_at p at ∷ words_from lim p (at + 2) = words_step lim p at le (omega arith) in
    let ih = words-at lim p k (at + 2) le (omega arith) in
    let z : at + 2 + 2 * k ≡ at + 2 * suc k = omega arith in
    rw e (omega (arith, ih.0), ih.1 ∙ ap (pair_at p) z)

-- the slots of a prelude
module _ (p : List ℕ) (n start : ℕ) where
  abbrev many : ℕ
  many = length (declared_slots p n start)

  abbrev end : ℕ
  end = min (start + 2 * n) (data_end p)

  pub declared-breaks : 4 ≤ live_of (declared_slots p n start) → many < n → Breaks p n start many (start + 2 * many)
  unfolding declared_slots slots_at
  declared-breaks live few = record {
    begins = begins;
    counts = refl;
    few = few;
    live = live;
    stops = refl;
    fails = go (leb (data_end p) (start + 2 * many + 1)) refl;
  }
    where
      ws : List ℕ
      ws = words_from end p start

      pos : 0 < many
      pos = omega (arith, live, live-few (declared_slots p n start))

      fit : 2 * many ≤ end - start
      fit = slots-few end p start

      begins : is_offset (pair_at p start) ≡ true
      begins =
          let here = words-at end p 0 start (omega arith) (omega (arith, pos, fit)) in
          let z : start + 2 * 0 ≡ start = omega arith in
          ap is_offset (ap (pair_at p) (sym z) ∙ sym here.1) ∙ opening-begins ws pos

      go : (b : Bool) → leb (data_end p) (start + 2 * many + 1) ≡ b → Fails p (declared_slots p n start) (start + 2 * many)
      go true q = inl (leb-true (data_end p) (start + 2 * many + 1) q)
      go false q =
          let l : start + 2 * many + 1 < data_end p = leb-false (data_end p) (start + 2 * many + 1) q in
          let here = words-at end p many start (omega arith) (omega (arith, l, few)) in
          inr (subst (Ends (last_live 0xFF0 (declared_slots p n start))) here.1 (opening-ends ws pos here.0))
