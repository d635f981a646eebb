-- One pass down gives the scan's directory: laws of a tail, and of the scan that it shows. Assumes nothing.
use Rattle.std.proofs.Common.{◌≡◌, ℕ, zero, suc, ◌+◌, ◌-◌, ◌*◌, ◌<◌, ◌≤◌, Bool, true, false, ◌&&◌, eqb, ltb, leb, ◌⊎◌, List, [], ◌∷◌, length, sym, refl, ap, ◌∙◌, subst, inl, inr, not-suc-le-zero, add-one, arith, ltb-true, le-ltb, eq-eqb, ne_eqb, eqb-true, le-leb, leb-false, leb-true}
use mathlib.Core.Bool.{and-false}
use borrow.Author.Tests.{lt-leb, eqb-false}
use Rattle.lists.specs.Cases.{pick}
use Rattle.lists.proofs.Picks.{pick-le}
use Rattle.lists.specs.Bytes.{pair_at}
use Rattle.slots.specs.Slots.{is_offset, words_from, falling, opening, slots_at, onto_trimmed, trim, live_of, array_start_of, scan_at, scan_from, stronger, no_scan, directory_from, scanned_directory}
use Rattle.slots.specs.Sweep.{no_tail, extended_by, extended, tail_of, empty_scan, tail_scan, stronger_kept}
use Rattle.slots.specs.Best.{More, Not-more}
use Rattle.slots.specs.declared.scans.Scan.{Scan}
use Rattle.slots.specs.declared.scans.Tail.{Tail}
use Rattle.slots.proofs.Words.{words_step, words-here, words-end, words-fit, offset-low, offset-high, offset-pos}
use Rattle.slots.proofs.Scanned.{start-near, start-live, start-skips, start-stays, decide, strong-more, strong-not, strong-empty, best_from, from-none, from_more, from_start}

-- the tail after one more pair, by the tests in their order
module _ (w : ℕ) (t : Tail) where
  pub extend-zero : w ≡ 0 → record { value = t.value; gap = t.gap + 1; slots = t.slots; live = t.live } ≡ extended w t
  unfolding extended
  extend-zero z = rw (eq-eqb w 0 z) refl

  pub extend-other : (w ≡ 0 → ⊥) → is_offset w ≡ false → no_tail ≡ extended w t
  unfolding extended
  extend-other n o = rw (ne_eqb w 0 n, o) refl

  pub extend-run :
      is_offset w ≡ true
      → (n v : ℕ)
      → n ≡ pick (ltb t.value w) (t.gap + t.slots) 0
      → v ≡ pick (ltb t.value w) t.live 0
      → record { value = w; gap = 0; slots = n + 1; live = v + 1 } ≡ extended w t
  unfolding extended
  extend-run o n v en ev = rw (ne_eqb w 0 (offset-pos w o), o) (go (ltb t.value w) en ev)
    where
      go : (c : Bool) → n ≡ pick c (t.gap + t.slots) 0 → v ≡ pick c t.live 0 → record { value = w; gap = 0; slots = n + 1; live = v + 1 } ≡ extended_by false true c w t
      go true p q = λ i. record { value = w; gap = 0; slots = p i + 1; live = q i + 1 }
      go false p q = λ i. record { value = w; gap = 0; slots = p i + 1; live = q i + 1 }

-- a tail has no more slots than its list has pairs
pub record Few (t : Tail) (n : ℕ) : Type 0 where
  pub in-slots : t.gap + t.slots ≤ n
  pub in-live : t.live ≤ n

few-extended : (a b c : Bool) (w : ℕ) (t : Tail) (n : ℕ) → Few t n → Few (extended_by a b c w t) (suc n)
few-extended true b c w t n f = record { in-slots = omega (arith, f.in-slots); in-live = omega (arith, f.in-live) }
few-extended false true true w t n f = record { in-slots = omega (arith, f.in-slots); in-live = omega (arith, f.in-live) }
few-extended false true false w t n f = record { in-slots = omega arith; in-live = omega arith }
few-extended false false c w t n f = record { in-slots = omega arith; in-live = omega arith }

few-tail : (ws : List ℕ) → Few (tail_of ws) (length ws)
unfolding tail_of extended
few-tail [] = record { in-slots = omega arith; in-live = omega arith }
few-tail (w ∷ ws) = few-extended (eqb w 0) (is_offset w) (ltb (tail_of ws).value w) w (tail_of ws) (length ws) (few-tail ws)

pub tail-few : (lim : ℕ) (p : List ℕ) (at : ℕ) (t : Tail) → t ≡ tail_of (words_from lim p at) → (2 * (t.gap + t.slots) ≤ lim) × (2 * t.live ≤ lim)
tail-few lim p at t e =
    let f : Few (tail_of (words_from lim p at)) (length (words_from lim p at)) = few-tail (words_from lim p at) in
    let n : 2 * length (words_from lim p at) ≤ lim - at = words-fit lim p at in
    rw e (omega (arith, f.in-slots), omega (arith, f.in-live))

-- a tail whose value is below an offset has a slot
Runs : Tail → Type 0
Runs t = t.value < 0xFF0 → 0 < t.slots

runs-extended : (a b c : Bool) (w : ℕ) (t : Tail) → Runs t → Runs (extended_by a b c w t)
unfolding Runs
runs-extended true b c w t h k = h k
runs-extended false true true w t h k = omega arith
runs-extended false true false w t h k = omega arith
runs-extended false false c w t h k = absurd (omega arith)

runs-tail : (ws : List ℕ) → Runs (tail_of ws)
unfolding tail_of extended Runs
runs-tail [] k = absurd (omega arith)
runs-tail (w ∷ ws) k = runs-extended (eqb w 0) (is_offset w) (ltb (tail_of ws).value w) w (tail_of ws) (runs-tail ws) k

-- the live slots and the slots of a list
abbrev Tally : List ℕ → ℕ → ℕ → Type 0
Tally l v s = (live_of l ≡ v) × (length (trim l) ≡ s)

tally-none : Tally [] 0 0
unfolding live_of trim
tally-none = (refl, refl)

tally-live : (w : ℕ) (l : List ℕ) (v s : ℕ) → 0 < w → Tally l v s → Tally (w ∷ l) (v + 1) (s + 1)
unfolding live_of trim onto_trimmed
tally-live zero l v s h k = absurd (not-suc-le-zero h)
tally-live (suc w) l v s h k = (rw add-one (ap suc k.0), rw add-one (ap suc k.1))

tally-zero : (l : List ℕ) (v s : ℕ) → 0 < s → Tally l v s → Tally (0 ∷ l) v (s + 1)
unfolding live_of trim onto_trimmed
tally-zero l v s h k = (k.0, go (trim l) k.1)
  where
    go : (t : List ℕ) → length t ≡ s → length (onto_trimmed 0 t) ≡ s + 1
    go [] e = absurd (not-suc-le-zero (subst (λ (x : ℕ). 0 < x) (sym e) h))
    go (y ∷ t) e = rw add-one (ap suc e)

tally-zeros : (l : List ℕ) → Tally l 0 0 → Tally (0 ∷ l) 0 0
unfolding live_of trim onto_trimmed
tally-zeros l k = (k.0, go (trim l) k.1)
  where
    go : (t : List ℕ) → length t ≡ 0 → length (onto_trimmed 0 t) ≡ 0
    go [] e = refl
    go (y ∷ t) e = absurd (not-suc-le-zero (subst (λ (x : ℕ). 0 < x) e (omega arith)))

-- the slots l that follow an offset w: those of the tail's run where its value is below w, and none else
abbrev Tells : List ℕ → ℕ → Tail → Type 0
Tells l w t = Tally l (pick (ltb t.value w) t.live 0) (pick (ltb t.value w) (t.gap + t.slots) 0)

zero-step : (w : ℕ) (t : Tail) (l : List ℕ) → w ≤ 0xFF0 → Runs t → Tells l w t → Tally (0 ∷ l) (pick (ltb t.value w) t.live 0) (pick (ltb t.value w) (t.gap + 1 + t.slots) 0)
unfolding Runs
zero-step w t l hw h k = go (ltb t.value w) refl k
  where
    go : (b : Bool) → ltb t.value w ≡ b → Tally l (pick b t.live 0) (pick b (t.gap + t.slots) 0) → Tally (0 ∷ l) (pick b t.live 0) (pick b (t.gap + 1 + t.slots) 0)
    go true q k =
        let below : t.value < w = ltb-true t.value w q in
        let pos : 0 < t.slots = h (omega arith) in
        let e : t.gap + t.slots + 1 ≡ t.gap + 1 + t.slots = omega arith in
        subst (λ (n : ℕ). Tally (0 ∷ l) t.live n) e (tally-zero l t.live (t.gap + t.slots) (omega arith) k)
    go false q k = tally-zeros l k

live-step : (v : ℕ) (t : Tail) (l : List ℕ) (c : Bool) → is_offset v ≡ true → Tally l (pick c t.live 0) (pick c (t.gap + t.slots) 0) → Tally (v ∷ l) (extended_by false true c v t).live ((extended_by false true c v t).gap + (extended_by false true c v t).slots)
live-step v t l true o k =
    let low : 0x20 ≤ v = offset-low v o in
    let e : t.gap + t.slots + 1 ≡ 0 + (t.gap + t.slots + 1) = omega arith in
    subst (λ (n : ℕ). Tally (v ∷ l) (t.live + 1) n) e (tally-live v l t.live (t.gap + t.slots) (omega arith) k)
live-step v t l false o k =
    let low : 0x20 ≤ v = offset-low v o in
    tally-live v l 0 0 (omega arith) k

tells-step : (w v : ℕ) (t : Tail) (lw lv : List ℕ) (a b d c : Bool) → w ≤ 0xFF0 → is_offset v ≡ b → ltb v w ≡ d → ltb t.value v ≡ c → Runs t → Tells lw w t → (is_offset v ≡ true → Tells lv v t) → Tells (pick a (0 ∷ lw) (pick (b && d) (v ∷ lv) [])) w (extended_by a b c v t)
tells-step w v t lw lv true b d c m q r k h hw hv = zero-step w t lw m h hw
tells-step w v t lw lv false false d c m q r k h hw hv = rw (le-ltb 0xFF0 w m) tally-none
tells-step w v t lw lv false true true true m q r k h hw hv = rw r (live-step v t lv true q (rw k at (hv q)))
tells-step w v t lw lv false true true false m q r k h hw hv = rw r (live-step v t lv false q (rw k at (hv q)))
tells-step w v t lw lv false true false true m q r k h hw hv = rw r tally-none
tells-step w v t lw lv false true false false m q r k h hw hv = rw r tally-none

falling-tail : (ws : List ℕ) (w : ℕ) → w ≤ 0xFF0 → Tells (falling w ws) w (tail_of ws)
unfolding falling tail_of extended
falling-tail [] w m = rw (le-ltb 0xFF0 w m) tally-none
falling-tail (v ∷ ws) w m =
    tells-step w v (tail_of ws) (falling w ws) (falling v ws) (eqb v 0) (is_offset v) (ltb v w) (ltb (tail_of ws).value v) m refl refl refl (runs-tail ws) (falling-tail ws w m)
    (λ o. falling-tail ws v (let h : v < 0xFF0 = offset-high v o in omega arith))

-- the run at an offset w
opening-tail : (w : ℕ) (ws : List ℕ) → is_offset w ≡ true → Tally (opening (w ∷ ws)) (extended w (tail_of ws)).live ((extended w (tail_of ws)).gap + (extended w (tail_of ws)).slots)
unfolding opening extended
opening-tail w ws o = rw (o, ne_eqb w 0 (offset-pos w o)) (go (ltb (tail_of ws).value w) refl (falling-tail ws w (let h : w < 0xFF0 = offset-high w o in omega arith)))
  where
    go : (c : Bool) → ltb (tail_of ws).value w ≡ c → Tells (falling w ws) w (tail_of ws) → Tally (w ∷ falling w ws) (extended_by false true c w (tail_of ws)).live ((extended_by false true c w (tail_of ws)).gap + (extended_by false true c w (tail_of ws)).slots)
    go true q k = live-step w (tail_of ws) (falling w ws) true o (rw q at k)
    go false q k = live-step w (tail_of ws) (falling w ws) false o (rw q at k)

extended-offset : (w : ℕ) (t : Tail) → is_offset w ≡ true → ((extended w t).gap ≡ 0) × (0 < (extended w t).live)
unfolding extended
extended-offset w t o = rw (o, ne_eqb w 0 (offset-pos w o)) (go (ltb t.value w))
  where
    go : (c : Bool) → ((extended_by false true c w t).gap ≡ 0) × (0 < (extended_by false true c w t).live)
    go true = (refl, omega arith)
    go false = (refl, omega arith)

-- the scan of a tail, by the tests in their order
module _ (s : ℕ) (t : Tail) where
  scan-dead : t.live ≡ 0 → empty_scan s ≡ tail_scan s t
  unfolding tail_scan
  scan-dead z = rw (lt-leb 1 t.live (omega arith)) refl

  scan-far : 1 < t.gap → empty_scan s ≡ tail_scan s t
  unfolding tail_scan
  scan-far h = rw (lt-leb t.gap 1 h, and-false) refl

  scan-is : (t.live ≡ 0 → ⊥) → t.gap ≤ 1 → record { start = s + 2 * t.gap; slots = t.slots; live = t.live } ≡ tail_scan s t
  unfolding tail_scan
  scan-is n h = rw (le-leb 1 t.live (omega (arith, n)), le-leb t.gap 1 h) refl

  scan-live : (tail_scan s t).live ≤ t.live
  unfolding tail_scan
  scan-live = go (leb 1 t.live && leb t.gap 1)
    where
      go : (b : Bool) → (pick b (record { start = s + 2 * t.gap; slots = t.slots; live = t.live }) (empty_scan s)).live ≤ t.live
      go true = omega arith
      go false = omega arith

  -- which scans are kept
  pub kept-few : (best : Scan) → t.live < 4 → best ≡ stronger_kept (tail_scan s t) best
  unfolding stronger_kept
  kept-few best h = rw (lt-leb 4 (tail_scan s t).live (omega (arith, scan-live))) refl

  pub kept-far : (best : Scan) → 1 < t.gap → best ≡ stronger_kept (tail_scan s t) best
  unfolding stronger_kept
  kept-far best h = ap (λ (x : Scan). pick (leb 4 x.live) (stronger x best) best) (scan-far h)

  pub kept_run : (best r : Scan) → 4 ≤ t.live → t.gap ≤ 1 → r ≡ stronger (record { start = s + 2 * t.gap; slots = t.slots; live = t.live }) best → r ≡ stronger_kept (tail_scan s t) best
  unfolding stronger_kept
  kept_run best r h k e =
      let run : Scan = record { start = s + 2 * t.gap; slots = t.slots; live = t.live } in
      e ∙ pick-le (stronger run best) best 4 t.live h ∙ ap (λ (x : Scan). pick (leb 4 x.live) (stronger x best) best) (scan-is (λ z. omega arith) k)

scan-eq : {a b c a' b' c' : ℕ} → a ≡ a' → b ≡ b' → c ≡ c' → ◌≡◌ {A = Scan} (record { start = a; slots = b; live = c }) (record { start = a'; slots = b'; live = c' })
scan-eq p q r = λ i. record { start = p i; slots = q i; live = r i }

module _ (lim : ℕ) (p : List ℕ) (s : ℕ) where
  pub scan-empty : s ≡ array_start_of lim p s → slots_at lim p s ≡ [] → scan_from lim p s ≡ empty_scan s
  unfolding scan_from
  scan-empty a e = ap (scan_at lim p) (sym a) ∙ scan-eq refl (ap (λ (l : List ℕ). length (trim l)) e ∙ tally-none.1) (ap live_of e ∙ tally-none.0)

  -- the run of offset w at `at`, where the scan from s reads it, and a tail t with its slots
  scan-run : (at w : ℕ) (ws : List ℕ) (t : Tail) → at ≡ array_start_of lim p s → words_from lim p at ≡ w ∷ ws → is_offset w ≡ true → t.gap ≤ 1 → at ≡ s + 2 * t.gap → t.slots ≡ (extended w (tail_of ws)).slots → t.live ≡ (extended w (tail_of ws)).live → scan_from lim p s ≡ tail_scan s t
  unfolding scan_from slots_at
  scan-run at w ws t a e o tg ta ts tl =
      let k : Tally (opening (w ∷ ws)) (extended w (tail_of ws)).live ((extended w (tail_of ws)).gap + (extended w (tail_of ws)).slots) = opening-tail w ws o in
      let j : ((extended w (tail_of ws)).gap ≡ 0) × (0 < (extended w (tail_of ws)).live) = extended-offset w (tail_of ws) o in
      let n : (extended w (tail_of ws)).gap + (extended w (tail_of ws)).slots ≡ (extended w (tail_of ws)).slots = omega (arith, j.0) in
      ap (scan_at lim p) (sym a)
      ∙ scan-eq ta (ap (λ (l : List ℕ). length (trim (opening l))) e ∙ k.1 ∙ n ∙ sym ts) (ap (λ (l : List ℕ). live_of (opening l)) e ∙ k.0 ∙ sym tl)
      ∙ scan-is s t (λ z. omega (arith, j.1)) tg

  opening-not : (w : ℕ) (ws : List ℕ) → words_from lim p s ≡ w ∷ ws → is_offset w ≡ false → slots_at lim p s ≡ []
  unfolding slots_at opening
  opening-not w ws e o = rw (e, o) refl

  zero-not : is_offset 0 ≡ false
  unfolding is_offset
  zero-not = refl

  pub slots_end : lim ≤ s + 1 → slots_at lim p s ≡ []
  unfolding slots_at opening
  slots_end h = rw (words-end lim p s h) refl

  -- no pair at s
  tail_none : lim ≤ s + 1 → scan_from lim p s ≡ tail_scan s (tail_of (words_from lim p s))
  unfolding tail_of
  tail_none h = scan-empty (start-near lim p s (omega arith)) (slots_end h) ∙ rw (words-end lim p s h) (scan-dead s no_tail refl)

  module _ (le : lim ≤ length p) where
    -- a pair that is not zero
    tail-live : (w : ℕ) → s + 1 < lim → w ≡ pair_at p s → (w ≡ 0 → ⊥) → scan_from lim p s ≡ tail_scan s (tail_of (w ∷ words_from lim p (s + 2)))
    unfolding tail_of
    tail-live w h e n = go (is_offset w) refl
      where
        ws : List ℕ
        ws = words_from lim p (s + 2)

        go : (b : Bool) → is_offset w ≡ b → scan_from lim p s ≡ tail_scan s (extended w (tail_of ws))
        go true o =
            let g : (extended w (tail_of ws)).gap ≡ 0 = (extended-offset w (tail_of ws) o).0 in
            scan-run s w ws (extended w (tail_of ws)) (start-live lim p s w e n) (words-here lim p s le w h e) o (omega arith) (omega arith) refl refl
        go false o =
            scan-empty (start-live lim p s w e n) (opening-not w ws (words-here lim p s le w h e) o)
            ∙ scan-dead s (extended w (tail_of ws)) (ap (λ (t : Tail). t.live) (sym (extend-other w (tail_of ws) n o)))

    -- a zero pair, the last below the limit
    tail-zero-last : (w : ℕ) → s + 1 < lim → lim ≤ s + 3 → w ≡ pair_at p s → w ≡ 0 → scan_from lim p s ≡ tail_scan s (tail_of (w ∷ words_from lim p (s + 2)))
    unfolding tail_of
    tail-zero-last w h k e z =
        let ws : List ℕ = words_from lim p (s + 2) in
        let none : ws ≡ [] = words-end lim p (s + 2) (omega arith) in
        scan-empty (start-near lim p s k) (opening-not w ws (words-here lim p s le w h e) (ap is_offset z ∙ zero-not))
        ∙ scan-dead s (extended w (tail_of ws)) (ap (λ (t : Tail). t.live) (sym (extend-zero w (tail_of ws) z)) ∙ ap (λ (l : List ℕ). (tail_of l).live) none)

    -- a zero pair before another pair v
    module _ (w v : ℕ) (h : s + 3 < lim) (e : w ≡ pair_at p s) (z : w ≡ 0) (d : v ≡ pair_at p (s + 2)) where
      after : List ℕ
      after = words_from lim p (s + 4)

      next : words_from lim p (s + 2) ≡ v ∷ after
      unfolding after
      next = let f : s + 2 + 2 ≡ s + 4 = omega arith in words-here lim p (s + 2) le v (omega arith) d ∙ ap (λ (k : ℕ). v ∷ words_from lim p k) f

      at_zero : words_from lim p s ≡ w ∷ v ∷ after
      at_zero = words-here lim p s le w (omega arith) e ∙ ap (λ (l : List ℕ). w ∷ l) next

      behind : Tail
      behind = extended v (tail_of after)

      farther : Tail
      farther = record { value = behind.value; gap = behind.gap + 1; slots = behind.slots; live = behind.live }

      zero-tail : tail_of (w ∷ v ∷ after) ≡ farther
      unfolding tail_of farther behind
      zero-tail = sym (extend-zero w (extended v (tail_of after)) z)

      tail-zero-next : scan_from lim p s ≡ tail_scan s (tail_of (w ∷ v ∷ after))
      unfolding farther behind
      tail-zero-next = rw zero-tail (go (is_offset v) refl (eqb v 0) refl)
        where
          none : is_offset v ≡ false → scan_from lim p s ≡ empty_scan s
          none o = scan-empty (start-stays lim p s w v h e z d o) (opening-not w (v ∷ after) at_zero (ap is_offset z ∙ zero-not))

          go : (b : Bool) → is_offset v ≡ b → (y : Bool) → eqb v 0 ≡ y → scan_from lim p s ≡ tail_scan s farther
          go true o y q =
              let g : behind.gap ≡ 0 = (extended-offset v (tail_of after) o).0 in
              scan-run (s + 2) v after farther (start-skips lim p s w v h e z d o) next o (omega arith) (omega arith) refl refl
          go false o true q =
              let g : (tail_of after).gap + 1 ≡ behind.gap = ap (λ (t : Tail). t.gap) (extend-zero v (tail_of after) (eqb-true v 0 q)) in
              none o ∙ scan-far s farther (omega arith)
          go false o false q = none o ∙ scan-dead s farther (ap (λ (t : Tail). t.live) (sym (extend-other v (tail_of after) (eqb-false v 0 q) o)))

-- every scan, by its tail
pub scan-tail : (lim : ℕ) (p : List ℕ) (s : ℕ) → lim ≤ length p → scan_from lim p s ≡ tail_scan s (tail_of (words_from lim p s))
scan-tail lim p s le = go (leb lim (s + 1)) refl (leb lim (s + 3)) refl (eqb (pair_at p s) 0) refl
  where
    back : (l : List ℕ) → words_from lim p s ≡ l → scan_from lim p s ≡ tail_scan s (tail_of l) → scan_from lim p s ≡ tail_scan s (tail_of (words_from lim p s))
    back l e q = q ∙ ap (λ (x : List ℕ). tail_scan s (tail_of x)) (sym e)

    go : (a : Bool) → leb lim (s + 1) ≡ a → (b : Bool) → leb lim (s + 3) ≡ b → (c : Bool) → eqb (pair_at p s) 0 ≡ c → scan_from lim p s ≡ tail_scan s (tail_of (words_from lim p s))
    go true qa b qb c qc = tail_none lim p s (leb-true lim (s + 1) qa)
    go false qa b qb false qc =
        let h : s + 1 < lim = leb-false lim (s + 1) qa in
        back _ (words_step lim p s le h) (tail-live lim p s le (pair_at p s) h refl (eqb-false (pair_at p s) 0 qc))
    go false qa true qb true qc =
        let h : s + 1 < lim = leb-false lim (s + 1) qa in
        back _ (words_step lim p s le h) (tail-zero-last lim p s le (pair_at p s) h (leb-true lim (s + 3) qb) refl (eqb-true (pair_at p s) 0 qc))
    go false qa false qb true qc =
        let k : s + 3 < lim = leb-false lim (s + 3) qb in
        back _ (at_zero lim p s le (pair_at p s) (pair_at p (s + 2)) k refl (eqb-true (pair_at p s) 0 qc) refl) (tail-zero-next lim p s le (pair_at p s) (pair_at p (s + 2)) k refl (eqb-true (pair_at p s) 0 qc) refl)

-- the tail at a position
tail-end : (lim : ℕ) (p : List ℕ) (s : ℕ) → lim ≤ s + 1 → no_tail ≡ tail_of (words_from lim p s)
unfolding tail_of
tail-end lim p s h = sym (ap tail_of (words-end lim p s h))

pub tail_more : (lim : ℕ) (p : List ℕ) (s w : ℕ) (beyond r : Tail) → lim ≤ length p → s + 1 < lim → w ≡ pair_at p s → beyond ≡ tail_of (words_from lim p (s + 2)) → r ≡ extended w beyond → r ≡ tail_of (words_from lim p s)
unfolding tail_of
tail_more lim p s w beyond r le h e f g = g ∙ ap (extended w) f ∙ sym (ap tail_of (words-here lim p s le w h e))

-- a scan of fewer than four live slots counts as none
pub counting : Scan → Scan
counting b = pick (leb 4 b.live) b no_scan

counting-none : no_scan ≡ counting no_scan
unfolding counting
counting-none = refl

counting-few : (b : Scan) → b.live < 4 → counting b ≡ no_scan
unfolding counting
counting-few b h = rw (lt-leb 4 b.live h) refl

counting-four : (b : Scan) → 4 ≤ b.live → counting b ≡ b
unfolding counting
counting-four b h = rw (le-leb 4 b.live h) refl

counting-directory : (b : Scan) → directory_from (counting b) ≡ directory_from b
unfolding directory_from
counting-directory b = go (leb 4 b.live) refl
  where
    go : (t : Bool) → leb 4 b.live ≡ t → directory_from (counting b) ≡ directory_from b
    go true q = ap directory_from (counting-four b (leb-true 4 b.live q))
    go false q = ap directory_from (counting-few b (leb-false 4 b.live q)) ∙ rw q refl

kept-counting : (c b : Scan) → stronger_kept c (counting b) ≡ counting (stronger c b)
unfolding stronger_kept
kept-counting c b = go (leb 4 c.live) refl (leb 4 b.live) refl (decide c b)
  where
    go : (x : Bool) → leb 4 c.live ≡ x → (y : Bool) → leb 4 b.live ≡ y → More c b ⊎ Not-more c b → pick x (stronger c (counting b)) (counting b) ≡ counting (stronger c b)
    go true qx true qy (inl m) = let h : 4 ≤ b.live = leb-true 4 b.live qy in ap (stronger c) (counting-four b h) ∙ strong-more c b m ∙ sym (ap counting (strong-more c b m) ∙ counting-four b h)
    go true qx true qy (inr m) =
        ap (stronger c) (counting-four b (leb-true 4 b.live qy)) ∙ strong-not c b m ∙ sym (ap counting (strong-not c b m) ∙ counting-four c (leb-true 4 c.live qx))
    go true qx false qy d =
        let h : 4 ≤ c.live = leb-true 4 c.live qx in
        let l : b.live < 4 = leb-false 4 b.live qy in
        ap (stronger c) (counting-few b l) ∙ strong-empty c no_scan refl refl ∙ sym (ap counting (strong-not c b (inl (omega arith))) ∙ counting-four c h)
    go false qx true qy d =
        let h : 4 ≤ b.live = leb-true 4 b.live qy in
        let l : c.live < 4 = leb-false 4 c.live qx in
        ap counting (sym (strong-more c b (inl (omega arith))))
    go false qx false qy (inl m) = ap counting (sym (strong-more c b m))
    go false qx false qy (inr m) =
        counting-few b (leb-false 4 b.live qy) ∙ sym (ap counting (strong-not c b m) ∙ counting-few c (leb-false 4 c.live qx))

-- what holds when the pass has come down to s: the tails at s and s + 1, and the best scan of the starts from s on
pub record Swept (lim : ℕ) (p : List ℕ) (s : ℕ) (near far : Tail) (best : Scan) : Type 0 where
  pub within : s ≤ lim
  pub near-is : near ≡ tail_of (words_from lim p s)
  pub far-is : far ≡ tail_of (words_from lim p (s + 1))
  pub best-is : best ≡ counting (best_from lim p s (lim - s))

pub swept_none : (lim : ℕ) (p : List ℕ) (near far : Tail) → near ≡ no_tail → far ≡ no_tail → Swept lim p lim near far no_scan
swept_none lim p near far e f = record {
  within = omega arith;
  near-is = e ∙ tail-end lim p lim (omega arith);
  far-is = f ∙ tail-end lim p (lim + 1) (omega arith);
  best-is = counting-none ∙ ap counting (from-none lim p);
}

module _ (lim : ℕ) (p : List ℕ) (s r : ℕ) (near far : Tail) (best : Scan) (g : Swept lim p s near far best) (one : s ≡ r + 1) where
  -- the tail that the next position takes up
  pub swept-next : far ≡ tail_of (words_from lim p (r + 2))
  swept-next = let e : s + 1 ≡ r + 2 = omega arith in g.far-is ∙ ap (λ (k : ℕ). tail_of (words_from lim p k)) e

  pub swept-more : (t : Tail) (b : Scan) → lim ≤ length p → t ≡ tail_of (words_from lim p r) → b ≡ stronger_kept (tail_scan r t) best → Swept lim p r t near b
  swept-more t b le e q = record {
    within = omega (arith, g.within);
    near-is = e;
    far-is = g.near-is ∙ ap (λ (k : ℕ). tail_of (words_from lim p k)) one;
    best-is =
        q ∙ ap (λ (x : Scan). stronger_kept x best) (ap (tail_scan r) e ∙ sym (scan-tail lim p r le)) ∙ ap (stronger_kept (scan_from lim p r)) (g.best-is ∙ ap (λ (k : ℕ). counting (best_from lim p k (lim - k))) one)
        ∙ kept-counting (scan_from lim p r) (best_from lim p (r + 1) (lim - (r + 1))) ∙ ap counting (from_more lim p r (omega (arith, g.within)));
  }

-- the last position below the limit has no pair
pub swept-last : (lim : ℕ) (p : List ℕ) (near far : Tail) → lim ≤ length p → 0 < lim → near ≡ no_tail → far ≡ no_tail → Swept lim p (lim - 1) near far no_scan
swept-last lim p near far le h e f =
    swept-more lim p lim (lim - 1) far near no_scan (swept_none lim p far near f e) (omega arith) near no_scan le (e ∙ tail-end lim p (lim - 1) (omega arith))
    (kept-few (lim - 1) near no_scan (let z : near.live ≡ 0 = ap (λ (t : Tail). t.live) e in omega arith))

pub swept_all : (lim : ℕ) (p : List ℕ) (s : ℕ) (near far : Tail) (best : Scan) → Swept lim p s near far best → s ≡ 0 → directory_from best ≡ scanned_directory lim p
swept_all lim p s near far best g z =
    ap directory_from (g.best-is ∙ ap (λ (k : ℕ). counting (best_from lim p k (lim - k))) z) ∙ counting-directory (best_from lim p 0 (lim - 0)) ∙ from_start lim p (best_from lim p 0 (lim - 0)) refl

-- the three ways out of `kept`
pub ruleset keeping = (kept-few, kept-far, kept_run)
