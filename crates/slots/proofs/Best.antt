-- What the scan's directory is: the scan with the most live slots, then the most slots, then the earliest start; none where no start has
-- four live slots. Assumes nothing.
use Rattle.std.proofs.Common.{Option, Some, None, ◌≡◌, ℕ, zero, suc, ◌<◌, ◌≤◌, Bool, true, false, leb, ◌⊎◌, List, sym, refl, ap, subst, inl, inr, ⊎_elim, le_of_suc-le-suc, not-suc-le-zero, eq-or-lt_of_le, arith, leb-false, leb-true}
use mathlib.Core.Bool.{false≢true}
use Rattle.lists.specs.Cases.{pick}
use Rattle.slots.specs.Slots.{scan_from, stronger, no_scan, best_scan, directory_from, scanned_directory}
use Rattle.slots.specs.Best.{More, Not-more, Best, ScanFinds}
use Rattle.slots.specs.declared.scans.Scan.{Scan}
use Rattle.slots.proofs.Scanned.{decide, strong-more, strong-not}

more-not : (b c x : Scan) → More b c → Not-more b x → Not-more c x
more-not b c x (inl h) (inl k) = inl (omega arith)
more-not b c x (inl h) (inr k) = inl (omega arith)
more-not b c x (inr h) (inl k) = inl (omega arith)
more-not b c x (inr h) (inr k) = inr (omega arith, omega arith)

not_more : (b c x : Scan) → Not-more b x → More b c → More x c
not_more b c x (inl h) (inl k) = inl (omega arith)
not_more b c x (inl h) (inr k) = inl (omega arith)
not_more b c x (inr h) (inl k) = inl (omega arith)
not_more b c x (inr h) (inr k) = inr (omega arith, omega arith)

upto : (P : ℕ → Type 0) (n : ℕ) → ((s : ℕ) → s < n → P s) → P n → (s : ℕ) → s < suc n → P s
upto P n all here s l = ⊎_elim (λ e. subst P (sym e) here) (λ k. all s k) (eq-or-lt_of_le (le_of_suc-le-suc l))

module _ (lim : ℕ) (p : List ℕ) where
  None-yet : ℕ → Scan → Type 0
  None-yet n b = (b ≡ no_scan) × ((s : ℕ) → s < n → Not-more b (scan_from lim p s))

  best-is : (n : ℕ) → None-yet n (best_scan lim p n) ⊎ Best lim p n (best_scan lim p n)
  unfolding best_scan None-yet
  best-is zero = inl (refl, λ s l. absurd (not-suc-le-zero l))
  best-is (suc n) = go (best-is n) (decide (best_scan lim p n) (scan_from lim p n))
    where
      b : Scan
      b = best_scan lim p n

      c : Scan
      c = scan_from lim p n

      worse : None-yet n b ⊎ Best lim p n b → (s : ℕ) → s < n → Not-more b (scan_from lim p s)
      worse (inl h) = h.1
      worse (inr h) = h.none-better

      go : None-yet n b ⊎ Best lim p n b → More b c ⊎ Not-more b c → None-yet (suc n) (stronger b c) ⊎ Best lim p (suc n) (stronger b c)
      go h (inl m) = inr (rw (strong-more b c m) record {
        from = n;
        below = omega arith;
        is-scan = refl;
        none-better = upto (λ s. Not-more c (scan_from lim p s)) n (λ s l. more-not b c (scan_from lim p s) m (worse h s l)) (inr (refl, omega arith));
        earlier-worse = λ s l. not_more b c (scan_from lim p s) (worse h s l) m;
      })
      go (inl h) (inr m) = inl (rw (strong-not b c m) (h.0, upto (λ s. Not-more b (scan_from lim p s)) n h.1 m))
      go (inr h) (inr m) = inr (rw (strong-not b c m) record {
        from = h.from;
        below = let k : h.from < n = h.below in omega arith;
        is-scan = h.is-scan;
        none-better = upto (λ s. Not-more b (scan_from lim p s)) n h.none-better m;
        earlier-worse = h.earlier-worse;
      })

  -- the theorem
  pub scanned-best : (d : Scan) → scanned_directory lim p ≡ Some d → Best lim p lim d × (4 ≤ d.live)
  unfolding scanned_directory directory_from None-yet
  scanned-best d q = go (leb 4 (best_scan lim p lim).live) refl (best-is lim) q
    where
      b : Scan
      b = best_scan lim p lim

      is : Option Scan → Scan
      is None = b
      is (Some x) = x

      some : Option Scan → Bool
      some None = false
      some (Some x) = true

      go : (t : Bool) → leb 4 b.live ≡ t → None-yet lim b ⊎ Best lim p lim b → pick t (Some b) None ≡ Some d → Best lim p lim d × (4 ≤ d.live)
      go false k h z = absurd (false≢true (ap some z))
      go true k (inl h) z =
          let e : b.live ≡ 0 = ap (λ (x : Scan). x.live) h.0 in
          let l : 4 ≤ b.live = leb-true 4 b.live k in
          absurd (omega arith)
      go true k (inr h) z = subst (λ (x : Scan). Best lim p lim x × (4 ≤ x.live)) (ap is z) (h, leb-true 4 b.live k)

  pub scanned-nothing : scanned_directory lim p ≡ None → (s : ℕ) → s < lim → (scan_from lim p s).live < 4
  unfolding scanned_directory directory_from None-yet
  scanned-nothing q s l = go (leb 4 (best_scan lim p lim).live) refl (best-is lim) q
    where
      b : Scan
      b = best_scan lim p lim

      some : Option Scan → Bool
      some None = false
      some (Some x) = true

      few : Not-more b (scan_from lim p s) → b.live < 4 → (scan_from lim p s).live < 4
      few (inl h) k = omega arith
      few (inr h) k = omega arith

      go : (t : Bool) → leb 4 b.live ≡ t → None-yet lim b ⊎ Best lim p lim b → pick t (Some b) None ≡ None → (scan_from lim p s).live < 4
      go true k h z = absurd (false≢true (sym (ap some z)))
      go false k (inl h) z = few (h.1 s l) (leb-false 4 b.live k)
      go false k (inr h) z = few (h.none-better s l) (leb-false 4 b.live k)

pub scan-finds : ScanFinds
scan-finds = record { best = scanned-best; nothing = scanned-nothing }
