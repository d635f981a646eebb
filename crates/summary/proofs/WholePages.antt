-- All eight sectors replaced by those of another page, in any order, with repeats, and beside any summary: what is there afterwards is that
-- page and its summary. Assumes nothing.
use Prim.Native.Nat.{ℕ, ◌<◌}
use mathlib.Core.Path.{◌≡◌, refl, sym, ap, ◌∙◌, subst}
use mathlib.Core.Bool.{Bool, true}
use mathlib.Core.List.{List, [], ◌∷◌}
use mathlib.Core.Logic.{◌⊎◌, inl, inr, ⊎_elim}
use native.Mathlib.Decide.{ℕ_discrete}
use native.Mathlib.Omega.{arith}
use borrow.Author.Tests.{ne_eqb}
use lib.ListN.{length}
use Rattle.lists.specs.Cases.{pick}
use Rattle.lists.specs.Counts.{is_in}
use Rattle.lists.proofs.Joined.{joined-ext}
use Rattle.lists.proofs.Picks.{never_both}
use Rattle.summary.specs.State.{State, at_scan, after, after_all, Taken, OneSector, Whole, AllEight, sector_at, sector_from, sectors_from}
use Rattle.summary.proofs.Parts.{sector-size, sectors-whole}
use Rattle.summary.proofs.Replacements.{FreshAt, taken-or-same, one-sector, still-fresh, fresh-all, fresh-is}

module _ (number : ℕ) (other : List ℕ) where
  -- sector k is that of the other page, and the summary's is its own
  record Agrees (k : ℕ) (t : State) : Type 0 where
    page : sector_at k t.stored ≡ sector_at k other
    fresh : FreshAt number t k

  -- one replacement, of a sector of the other page: it comes to agree, and the others go on agreeing
  module _ (t : State) (w : Whole t) (s : ℕ) where
    abbrev next : State
    next = after number t (sector_from other s)

    one : Taken t (sector_from other s) → OneSector number (sector_from other s) t next
    one k = one-sector number t (sector_from other s) k w.eight

    still-whole : Whole next
    still-whole = ⊎_elim (λ k. (one k).lengths-kept) (λ e. subst Whole (sym e) w) (taken-or-same number t (sector_from other s))

    agrees_at : Taken t (sector_from other s) → Agrees s next
    agrees_at c = record { page = (one c).stored-new; fresh = still-fresh number (sector_from other s) t next (one c) s c.within (inl refl) }

    agrees_after : (k : ℕ) → k < 8 → Agrees k t → Agrees k next
    agrees_after k h a = ⊎_elim (λ c. go c (ℕ_discrete k s)) (λ e. subst (Agrees k) (sym e) a) (taken-or-same number t (sector_from other s))
      where
        go : Taken t (sector_from other s) → Dec (k ≡ s) → Agrees k next
        go c (yes e) = subst (λ (j : ℕ). Agrees j next) (sym e) (agrees_at c)
        go c (no ne) = record { page = (one c).stored-kept k h ne ∙ a.page; fresh = still-fresh number (sector_from other s) t next (one c) k h (inr a.fresh) }

  -- and any number of them: a sector agrees that did before, or is among them
  whole-all : (order : List ℕ) (t : State) → Whole t → Whole (after_all number t (sectors_from other order))
  unfolding after_all sectors_from
  whole-all [] t w = w
  whole-all (s ∷ order) t w = whole-all order (after number t (sector_from other s)) (still-whole t w s)

  agrees-all :
      (order : List ℕ) (t : State)
      → Whole t
      → length other ≡ 4096
      → (k : ℕ)
      → k < 8
      → Agrees k t ⊎ (is_in k order ≡ true)
      → Agrees k (after_all number t (sectors_from other order))
  unfolding after_all sectors_from is_in
  agrees-all [] t w e k h (inl a) = a
  agrees-all [] t w e k h (inr q) = absurd (never_both refl q)
  agrees-all (s ∷ order) t w e k h (inl a) = agrees-all order (after number t (sector_from other s)) (still-whole t w s) e k h (inl (agrees_after t w s k h a))
  agrees-all (s ∷ order) t w e k h (inr q) = agrees-all order (after number t (sector_from other s)) (still-whole t w s) e k h (go (ℕ_discrete k s))
    where
      go : Dec (k ≡ s) → Agrees k (after number t (sector_from other s)) ⊎ (is_in k order ≡ true)
      go (yes x) =
          let b : s < 8 = omega arith in
          let c : Taken t (sector_from other s) = record { whole = w.page; buffer = w.bytes; within = b; sized = sector-size other s e b } in
          inl (subst (λ (j : ℕ). Agrees j (after number t (sector_from other s))) (sym x) (agrees_at t w s c))
      go (no ne) = inr (ap (λ (b : Bool). pick b true (is_in k order)) (sym (ne_eqb k s ne)) ∙ q)

  -- what agrees in all eight is the other page, and its summary
  agrees-is : (t : State) → Whole t → length other ≡ 4096 → ((k : ℕ) → k < 8 → Agrees k t) → (buffer : List ℕ) → length buffer ≡ 4080 → t ≡ at_scan number other buffer
  agrees-is t w e a buffer h =
      let page : t.stored ≡ other =
      sectors-whole t.stored (omega (arith, w.page)) ∙ joined-ext _ _ 8 (λ k q. (a k q).page) ∙ sym (sectors-whole other (omega arith)) in
      fresh-is number t buffer (fresh-all number t w (λ k q. (a k q).fresh)) h ∙ ap (λ (l : List ℕ). at_scan number l buffer) page

-- ALL EIGHT SECTORS of another page, in any order, with repeats: beside any summary, what is there afterwards is what a scan of that page makes
pub whole-page :
    (number : ℕ) (t : State) (other order buffer : List ℕ)
    → Whole t
    → AllEight other order
    → length buffer ≡ 4080
    → after_all number t (sectors_from other order) ≡ at_scan number other buffer
whole-page number t other order buffer w a h =
    agrees-is number other (after_all number t (sectors_from other order)) (whole-all number other order t w) a.whole
    (λ k q. agrees-all number other order t w a.whole k q (inr (a.every k q))) buffer h
