-- Laws of a run of slots, read one after the other. Assumes nothing.
use Prim.Native.Nat.{ℕ, zero, suc, ◌+◌, ◌*◌, ◌≤◌, ◌<◌}
use mathlib.Core.Path.{◌≡◌, refl, sym, ap, subst, ◌∙◌}
use mathlib.Core.List.{List, [], ◌∷◌}
use mathlib.Core.Bool.{true, false}
use native.Mathlib.Omega.{arith}
use lib.ListN.{length}
use Rattle.lists.specs.Bytes.{pair_at}
use Rattle.slots.specs.Slots.{is_offset, words_from, falling, opening, slots_at, live_of}
use Rattle.slots.proofs.Words.{words-here, words-end, offset-high, offset-pos, offset-yes, offset-small, falling-zero, falling-live, falling-other, falling-above}
use Rattle.preludes.specs.Preludes.{run_of}
use Rattle.preludes.specs.declared.search.Run.{Run}

abbrev pub no_run : Run
no_run = record { taken = 0; live = 0 }

-- the run of slots read so far and the list that follows
pub onto : ℕ → ℕ → List ℕ → Run
onto k v l = record { taken = k + length l; live = v + live_of l }

run-eq : {a b a' b' : ℕ} → a ≡ a' → b ≡ b' → ◌≡◌ {A = Run} (record { taken = a; live = b }) (record { taken = a'; live = b' })
run-eq p q = λ i. record { taken = p i; live = q i }

onto-zero : (k v : ℕ) (l : List ℕ) → onto k v (0 ∷ l) ≡ onto (k + 1) v l
unfolding onto live_of
onto-zero k v l = run-eq (omega arith) refl

onto-live : (k v w : ℕ) (l : List ℕ) → (w ≡ 0 → ⊥) → onto k v (w ∷ l) ≡ onto (k + 1) (v + 1) l
unfolding onto live_of
onto-live k v zero l n = absurd (n refl)
onto-live k v (suc w) l n = run-eq (omega arith) (omega arith)

onto-nil : (k v : ℕ) → onto k v [] ≡ record { taken = k; live = v }
unfolding onto live_of
onto-nil k v = run-eq (omega arith) (omega arith)

onto-first : (w : ℕ) (l : List ℕ) → (w ≡ 0 → ⊥) → run_of (w ∷ l) ≡ onto 1 1 l
unfolding onto live_of
onto-first zero l n = absurd (n refl)
onto-first (suc w) l n = run-eq (omega arith) (omega arith)

run_none : run_of [] ≡ no_run
unfolding live_of
run_none = refl

-- the slots at a position, by its first pair
module _ (lim : ℕ) (p : List ℕ) (at : ℕ) where
  pub slots-past : lim ≤ at + 1 → no_run ≡ run_of (slots_at lim p at)
  unfolding slots_at opening
  slots-past h = sym (rw (words-end lim p at h) run_none)

  module _ (w : ℕ) (le : lim ≤ length p) (h : at + 1 < lim) (e : w ≡ pair_at p at) where
    pub slots-none : is_offset w ≡ false → no_run ≡ run_of (slots_at lim p at)
    unfolding slots_at opening
    slots-none o = sym (rw (words-here lim p at le w h e, o) run_none)

    slots-open : is_offset w ≡ true → slots_at lim p at ≡ w ∷ falling w (words_from lim p (at + 2))
    unfolding slots_at opening
    slots-open o = rw (words-here lim p at le w h e, o) refl

-- what holds while a run is read: the numbers so far, and what is to come
pub record Going (lim : ℕ) (p : List ℕ) (at prev taken live pos : ℕ) : Type 0 where
  pub within : pos ≤ lim
  pub so_far : pos ≡ at + 2 * taken
  pub few : live ≤ taken
  pub low : prev < 0xFF0
  pub rest : run_of (slots_at lim p at) ≡ onto taken live (falling prev (words_from lim p pos))

pub going-first : (lim : ℕ) (p : List ℕ) (at w : ℕ) → lim ≤ length p → at + 1 < lim → w ≡ pair_at p at → is_offset w ≡ true → Going lim p at w 1 1 (at + 2)
going-first lim p at w le h e o = record {
  within = omega arith;
  so_far = omega arith;
  few = omega arith;
  low = offset-high w o;
  rest = ap run_of (slots-open lim p at w le h e o) ∙ onto-first w (falling w (words_from lim p (at + 2))) (offset-pos w o);
}

module _ (lim : ℕ) (p : List ℕ) (at prev taken live pos w : ℕ) (g : Going lim p at prev taken live pos) (le : lim ≤ length p) (h : pos + 1 < lim) (e : w ≡ pair_at p pos) where
  rest-here : run_of (slots_at lim p at) ≡ onto taken live (falling prev (w ∷ words_from lim p (pos + 2)))
  rest-here = g.rest ∙ ap (λ (l : List ℕ). onto taken live (falling prev l)) (words-here lim p pos le w h e)

  pub going-zero : w ≡ 0 → Going lim p at prev (taken + 1) live (pos + 2)
  going-zero z = record {
    within = omega arith;
    so_far = omega (arith, g.so_far);
    few = omega (arith, g.few);
    low = g.low;
    rest = rest-here ∙ ap (onto taken live) (falling-zero prev w _ z) ∙ onto-zero taken live _;
  }

  pub going-live : 0x20 ≤ w → w < prev → Going lim p at w (taken + 1) (live + 1) (pos + 2)
  going-live b l = let o : is_offset w ≡ true = offset-yes w b (omega (arith, g.low)) in record {
    within = omega arith;
    so_far = omega (arith, g.so_far);
    few = omega (arith, g.few);
    low = omega (arith, g.low);
    rest = rest-here ∙ ap (onto taken live) (falling-live prev w _ o l) ∙ onto-live taken live w _ (offset-pos w o);
  }

  pub stop-small : (w ≡ 0 → ⊥) → w < 0x20 → record { taken = taken; live = live } ≡ run_of (slots_at lim p at)
  stop-small n b = sym (rest-here ∙ ap (onto taken live) (falling-other prev w _ n (offset-small w b)) ∙ onto-nil taken live)

  pub stop-above : (w ≡ 0 → ⊥) → prev ≤ w → record { taken = taken; live = live } ≡ run_of (slots_at lim p at)
  stop-above n l = sym (rest-here ∙ ap (onto taken live) (falling-above prev w _ n l) ∙ onto-nil taken live)

-- where a pair has room there is a slot
pub slot-first : (lim at n : ℕ) → (n ≤ 0 → lim ≤ at + 2 * 0 + 1) → at + 1 < lim → 1 ≤ n
slot-first lim at zero over h = omega (arith, over (omega arith))
slot-first lim at (suc n) over h = omega arith

pub stop-end : (lim : ℕ) (p : List ℕ) (at prev taken live pos : ℕ) → Going lim p at prev taken live pos → lim ≤ pos + 1 → record { taken = taken; live = live } ≡ run_of (slots_at lim p at)
unfolding falling
stop-end lim p at prev taken live pos g h =
    sym (g.rest ∙ ap (λ (l : List ℕ). onto taken live (falling prev l)) (words-end lim p pos h) ∙ onto-nil taken live)

pub going-to : {lim : ℕ} {p : List ℕ} {at prev taken live pos : ℕ} (to : ℕ) → pos ≡ to → Going lim p at prev taken live pos → Going lim p at prev taken live to
going-to {lim} {p} {at} {prev} {taken} {live} to e g = subst (Going lim p at prev taken live) e g
