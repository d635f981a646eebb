-- The search for the first place of the greatest of some numbers and for the second greatest, one number after the other. Assumes nothing.
use Rattle.std.proofs.Common.{◌≡◌, ℕ, zero, suc, ◌+◌, ◌<◌, ◌≤◌, max, Bool, sym, refl, ap, ◌∙◌, arith, eq-eqb, ne_eqb}
use mathlib.Core.Path.{subst₃}
use native.Mathlib.Decide.{ℕ_discrete}
use Rattle.lists.specs.Cases.{pick}
use Rattle.lists.specs.Counts.{greatest}
use Rattle.lists.proofs.Greatest.{greatest-none, greatest-more, greatest-above, greatest-below, greatest-ext}
use Rattle.lists.proofs.Least.{Leader, leader-none, leader-up, leader-stay, leader-is}
use Rattle.sector.specs.Fit.{top_place, but_at, second}

-- the numbers at all places but one
pub but-here : (f : ℕ → ℕ) (place : ℕ) → but_at f place place ≡ 0
but-here f place = ap (λ (b : Bool). pick b 0 (f place)) (eq-eqb place place refl)

pub but-there : (f : ℕ → ℕ) (place k : ℕ) → (k ≡ place → ⊥) → but_at f place k ≡ f k
but-there f place k ne = ap (λ (b : Bool). pick b 0 (f k)) (ne_eqb k place ne)

-- a leader stands among the numbers that were seen, if any were
module _ (f : ℕ → ℕ) (n best most : ℕ) (l : Leader f n best most) where
  leader-last : best ≡ n → most ≡ 0
  leader-last e = go most refl
    where
      go : (m : ℕ) → most ≡ m → most ≡ 0
      go zero z = z
      go (suc m) z =
          let less : greatest f n ≤ m = greatest-below f n m (λ k h. omega (arith, l.first k (omega arith))) in
          absurd (omega (arith, l.top))

  pub leader-within : 0 < n → best < n
  leader-within h = go (ℕ_discrete best n)
    where
      go : Dec (best ≡ n) → best < n
      go (yes e) = let s : best ≡ 0 = l.start (leader-last e) in omega arith
      go (no ne) = omega (arith, l.below)

  pub leader-here : 0 < n → f best ≡ most
  leader-here h = go most refl
    where
      go : (m : ℕ) → most ≡ m → f best ≡ most
      go zero z = omega (arith, greatest-above f n best (leader-within h), l.top)
      go (suc m) z = l.here (omega arith)

-- after n numbers: the leader, and the greatest of all others
pub record Leads (f : ℕ → ℕ) (n place most next : ℕ) : Type 0 where
  pub lead : Leader f n place most
  pub rest : next ≡ greatest (but_at f place) n

module _ (f : ℕ → ℕ) where
  pub leads-none : Leads f 0 0 0 0
  leads-none = record { lead = leader-none f; rest = sym (greatest-none (but_at f 0)) }

  module _ (n place most next : ℕ) (l : Leads f n place most next) where
    -- a greater number leads, and what led comes second
    pub leads-up : most < f n → Leads f (n + 1) n (f n) most
    leads-up h =
        record {
          lead = leader-up f n place most l.lead h;
          rest =
              let same : greatest (but_at f n) n ≡ greatest f n = greatest-ext (but_at f n) f n (λ k q. but-there f n k (omega arith)) in
              omega (arith, greatest-more (but_at f n) n, but-here f n, l.lead.top);
        }

    -- any other may come second
    but-next : f n ≤ most → but_at f place n ≡ f n
    but-next h = go (ℕ_discrete n place)
      where
        go : Dec (n ≡ place) → but_at f place n ≡ f n
        go (no ne) = but-there f place n ne
        go (yes e) =
            let z : most ≡ 0 = leader-last f n place most l.lead (sym e) in
            let a : f n ≡ 0 = omega arith in
            ap (but_at f place) e ∙ but-here f place ∙ sym a

    pub leads-stay : (r : ℕ) → f n ≤ most → r ≡ max next (f n) → Leads f (n + 1) place most r
    leads-stay r h e =
        record {
          lead = leader-stay f n place most l.lead h;
          rest = omega (arith, e, l.rest, but-next h, greatest-more (but_at f place) n);
        }

  -- after all of them
  module _ (n place most next : ℕ) (l : Leads f n place most next) where
    pub leads-most : most ≡ greatest f n
    leads-most = l.lead.top

    pub leads-place : 0 < n → place ≡ top_place f n
    unfolding top_place
    leads-place h = leader-is f n place most l.lead (leader-within f n place most l.lead h)

    pub leads-next : 0 < n → next ≡ second f n
    unfolding second
    leads-next h = l.rest ∙ ap (λ (s : ℕ). greatest (but_at f s) n) (leads-place h)

-- the same at equal numbers
pub leads-as : (f : ℕ → ℕ) (n : ℕ) {s p r s' p' r' : ℕ} → s' ≡ s → p' ≡ p → r' ≡ r → Leads f n s p r → Leads f n s' p' r'
leads-as f n a b c l = subst₃ (λ (s p r : ℕ). Leads f n s p r) (sym a) (sym b) (sym c) l
