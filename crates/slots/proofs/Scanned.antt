-- Laws of the scan: where its array starts, which of two is better, and the best of all starts. Assumes nothing.
use Rattle.std.proofs.Common.{Some, None, ◌≡◌, ℕ, zero, suc, ◌+◌, ◌-◌, ◌<◌, ◌≤◌, Bool, true, false, eqb, ltb, ◌⊎◌, List, sym, refl, ap, ◌∙◌, inl, inr, ⊎_elim, add-zero, add-one, arith, ltb-false, ltb-true, le-ltb, lt-ltb, eq-eqb, ne_eqb, eqb-true, le-leb}
use mathlib.Core.Bool.{and-false}
use borrow.Author.Tests.{lt-leb, eqb-false}
use Rattle.lists.specs.Bytes.{pair_at}
use Rattle.slots.specs.Slots.{is_offset, array_start_of, scan_from, stronger, no_scan, best_scan, directory_from, scanned_directory}
use Rattle.slots.specs.Best.{More, Not-more}
use Rattle.slots.specs.declared.scans.Scan.{Scan}

-- where the array of a scan starts, by the tests in their order
module _ (lim : ℕ) (p : List ℕ) (s : ℕ) where
  pub start-near : lim ≤ s + 3 → s ≡ array_start_of lim p s
  unfolding array_start_of
  start-near h = rw (le-ltb (s + 3) lim h) refl

  pub start-live : (w : ℕ) → w ≡ pair_at p s → (w ≡ 0 → ⊥) → s ≡ array_start_of lim p s
  unfolding array_start_of
  start-live w e n = rw (← e, ne_eqb w 0 n, and-false) refl

  module _ (w v : ℕ) (h : s + 3 < lim) (e : w ≡ pair_at p s) (z : w ≡ 0) (d : v ≡ pair_at p (s + 2)) where
    pub start-skips : is_offset v ≡ true → s + 2 ≡ array_start_of lim p s
    unfolding array_start_of
    start-skips o = rw (← e, ← d, lt-ltb (s + 3) lim h, eq-eqb w 0 z, o) refl

    pub start-stays : is_offset v ≡ false → s ≡ array_start_of lim p s
    unfolding array_start_of
    start-stays o = rw (← e, ← d, lt-ltb (s + 3) lim h, eq-eqb w 0 z, o) refl

-- the better of two, by the tests in their order
module _ (b c : Scan) where
  pub more-live : b.live < c.live → c ≡ stronger b c
  unfolding stronger
  more-live h = rw (lt-ltb b.live c.live h) refl

  pub less-live : c.live ≤ b.live → (b.live ≡ c.live → ⊥) → b ≡ stronger b c
  unfolding stronger
  less-live h n = rw (le-ltb b.live c.live h, ne_eqb b.live c.live n) refl

  pub more-slots : c.live ≤ b.live → b.live ≡ c.live → b.slots < c.slots → c ≡ stronger b c
  unfolding stronger
  more-slots h e l = rw (le-ltb b.live c.live h, eq-eqb b.live c.live e, lt-ltb b.slots c.slots l) refl

  pub less-slots : c.live ≤ b.live → b.live ≡ c.live → c.slots ≤ b.slots → b ≡ stronger b c
  unfolding stronger
  less-slots h e l = rw (le-ltb b.live c.live h, eq-eqb b.live c.live e, le-ltb b.slots c.slots l) refl

-- which of two has more
pub decide : (b c : Scan) → More b c ⊎ Not-more b c
decide b c = go (ltb b.live c.live) refl (eqb b.live c.live) refl (ltb b.slots c.slots) refl
  where
    go : (x : Bool) → ltb b.live c.live ≡ x → (y : Bool) → eqb b.live c.live ≡ y → (z : Bool) → ltb b.slots c.slots ≡ z → More b c ⊎ Not-more b c
    go true qx y qy z qz = inl (inl (ltb-true b.live c.live qx))
    go false qx true qy true qz = inl (inr (eqb-true b.live c.live qy, ltb-true b.slots c.slots qz))
    go false qx true qy false qz = inr (inr (eqb-true b.live c.live qy, ltb-false b.slots c.slots qz))
    go false qx false qy z qz =
        let h : c.live ≤ b.live = ltb-false b.live c.live qx in
        let n : b.live ≡ c.live → ⊥ = eqb-false b.live c.live qy in
        inr (inl (omega (arith, n)))

pub strong-more : (b c : Scan) → More b c → stronger b c ≡ c
strong-more b c (inl h) = sym (more-live b c h)
strong-more b c (inr h) = sym (more-slots b c (let e : b.live ≡ c.live = h.0 in omega arith) h.0 h.1)

pub strong-not : (b c : Scan) → Not-more b c → stronger b c ≡ b
strong-not b c (inl h) = sym (less-live b c (omega arith) (λ e. omega arith))
strong-not b c (inr h) = sym (less-slots b c (let e : b.live ≡ c.live = h.0 in omega arith) h.0 h.1)

more-trans : (a b c : Scan) → More a b → More b c → More a c
more-trans a b c (inl h) (inl k) = inl (omega arith)
more-trans a b c (inl h) (inr k) = inl (omega arith)
more-trans a b c (inr h) (inl k) = inl (omega arith)
more-trans a b c (inr h) (inr k) = inr (omega arith, omega arith)

not-trans : (a b c : Scan) → Not-more a b → Not-more b c → Not-more a c
not-trans a b c (inl h) (inl k) = inl (omega arith)
not-trans a b c (inl h) (inr k) = inl (omega arith)
not-trans a b c (inr h) (inl k) = inl (omega arith)
not-trans a b c (inr h) (inr k) = inr (omega arith, omega arith)

-- so the best can be found from either end
stronger-assoc : (a b c : Scan) → stronger (stronger a b) c ≡ stronger a (stronger b c)
stronger-assoc a b c = go (decide a b) (decide b c)
  where
    go : More a b ⊎ Not-more a b → More b c ⊎ Not-more b c → stronger (stronger a b) c ≡ stronger a (stronger b c)
    go (inl h) (inl k) = rw (strong-more a b h, strong-more b c k, strong-more a c (more-trans a b c h k)) refl
    go (inl h) (inr k) = rw (strong-more a b h, strong-not b c k, strong-more a b h) refl
    go (inr h) (inl k) = rw (strong-not a b h, strong-more b c k) refl
    go (inr h) (inr k) = rw (strong-not a b h, strong-not b c k, strong-not a c (not-trans a b c h k), strong-not a b h) refl

-- a scan without slots is never taken for an earlier one
pub strong-empty : (b c : Scan) → c.live ≡ 0 → c.slots ≡ 0 → stronger b c ≡ b
strong-empty b c v s = strong-not b c (go (ltb 0 b.live) refl)
  where
    go : (x : Bool) → ltb 0 b.live ≡ x → Not-more b c
    go true q = let h : 0 < b.live = ltb-true 0 b.live q in inl (omega arith)
    go false q = let h : b.live ≤ 0 = ltb-false 0 b.live q in inr (omega arith, omega arith)

-- the best of k starts from s on
pub best_from : ℕ → List ℕ → ℕ → ℕ → Scan
best_from lim p s zero = no_scan
best_from lim p s (suc k) = stronger (scan_from lim p s) (best_from lim p (s + 1) k)

from_all : (lim : ℕ) (p : List ℕ) (k s : ℕ) → best_scan lim p (s + k) ≡ stronger (best_scan lim p s) (best_from lim p s k)
unfolding best_from best_scan
from_all lim p zero s = rw add-zero (sym (strong-empty (best_scan lim p s) no_scan refl refl))
from_all lim p (suc k) s =
    let e : s + suc k ≡ s + 1 + k = omega arith in
    ap (best_scan lim p) e ∙ from_all lim p k (s + 1)
    ∙ ap (λ (x : Scan). stronger x (best_from lim p (s + 1) k)) (rw add-one refl)
    ∙ stronger-assoc (best_scan lim p s) (scan_from lim p s) (best_from lim p (s + 1) k)

directory-from : (b : Scan) → directory_from (stronger no_scan b) ≡ directory_from b
unfolding directory_from
directory-from b = go (decide no_scan b)
  where
    small : (x : Scan) → x.live < 4 → directory_from x ≡ None
    small x l = rw (lt-leb 4 x.live l) refl

    go : More no_scan b ⊎ Not-more no_scan b → directory_from (stronger no_scan b) ≡ directory_from b
    go (inl h) = ap directory_from (strong-more no_scan b h)
    go (inr h) = ap directory_from (strong-not no_scan b h) ∙ small no_scan (omega arith) ∙ sym (small b (⊎_elim (λ k. omega arith) (λ k. omega arith) h))

-- the pass down: its start, one more start, and its end
pub from-none : (lim : ℕ) (p : List ℕ) → no_scan ≡ best_from lim p lim (lim - lim)
unfolding best_from
from-none lim p = let e : lim - lim ≡ 0 = omega arith in rw e refl

pub from_more : (lim : ℕ) (p : List ℕ) (s : ℕ) → s < lim → stronger (scan_from lim p s) (best_from lim p (s + 1) (lim - (s + 1))) ≡ best_from lim p s (lim - s)
unfolding best_from
from_more lim p s h =
    let n : lim - s ≡ suc (lim - (s + 1)) = omega arith in
    sym (ap (best_from lim p s) n)

pub from_start : (lim : ℕ) (p : List ℕ) (b : Scan) → b ≡ best_from lim p 0 (lim - 0) → directory_from b ≡ scanned_directory lim p
unfolding scanned_directory best_scan
from_start lim p b e =
    let z : lim - 0 ≡ lim = omega arith in
    let y : 0 + lim ≡ lim = omega arith in
    ap directory_from (e ∙ ap (best_from lim p 0) z) ∙ sym (directory-from (best_from lim p 0 lim))
    ∙ ap directory_from (sym (from_all lim p lim 0)) ∙ ap (λ (x : ℕ). directory_from (best_scan lim p x)) y

-- four live slots or none
module _ (b : Scan) where
  pub few-live : b.live < 4 → None ≡ directory_from b
  unfolding directory_from
  few-live h = rw (lt-leb 4 b.live h) refl

  pub four-live : 4 ≤ b.live → Some b ≡ directory_from b
  unfolding directory_from
  four-live h = rw (le-leb 4 b.live h) refl
