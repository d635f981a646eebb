-- What decides a choice leaves nothing else open: how many candidates are verified, and that no dispute is left. Assumes nothing.
use Prim.Native.Nat.{ℕ, ◌≤◌, ◌<◌}
use mathlib.Core.Path.{◌≡◌, sym, ap₂, ◌∙◌}
use mathlib.Core.Bool.{Bool, true, false, ◌&&◌, ◌||◌}
use mathlib.Core.List.{List}
use native.Mathlib.Decide.{ℕ_discrete}
use native.Mathlib.Omega.{arith}
use borrow.Author.Tests.{lt-ltb, lt-leb, eqb-true, ltb-true}
use lib.Dec.{eqb, ltb}
use Rattle.lists.specs.Bytes.{plain_of}
use Rattle.lists.specs.Counts.{is_in}
use Rattle.lists.proofs.Booleans.{and_yes, and_left, and_right, and-not-both}
use Rattle.lists.proofs.Many.{many-zero, many-some}
use Rattle.lists.proofs.Picks.{never_both}
use Rattle.slots.specs.Slots.{row_count_matches}
use Rattle.votes.specs.Votes.{is_verified}
use Rattle.meanings.specs.Values.{is_exact, exact_sectors, votes_for, stands_for}
use Rattle.meanings.specs.Sources.{Other, verified_number, NoneVerified, top_value, is_strong, is_disputed, disputed_number, SoleVerified}
use Rattle.meanings.proofs.Passing.{all-equal, First, first_passes}
use Rattle.meanings.proofs.Voting.{votes-apart}
use Rattle.meanings.proofs.Outcomes.{disputed-one, disputed-voted, disputed-stands}

module _ (lim : ℕ) (shifted anchors : List ℕ) (n t : ℕ) where
  abbrev tested : ℕ → Bool
  tested v = is_verified lim shifted n t v

  abbrev stands_tested : ℕ → Bool
  stands_tested v = stands_for shifted v && tested v

  abbrev in_dispute : ℕ → Bool
  in_dispute v = is_disputed lim shifted anchors n t v

  pub none_number : NoneVerified lim shifted n t → verified_number lim shifted n t ≡ 0
  unfolding verified_number
  none_number q =
      many-zero stands_tested 256
      (λ v h. and-not-both (stands_for shifted v) (tested v) (λ s e. never_both (q.none v (record { byte = h; candidate = s })) e))

  -- ---- one is verified, and has no rival

  module _ (bv : ℕ) (q : SoleVerified lim shifted anchors n t bv) where
    pub sole-verified : tested bv ≡ true
    unfolding is_verified
    sole-verified = and_yes (ltb 0 n) (row_count_matches lim (plain_of bv shifted) n t) (lt-ltb 0 n q.rows) q.passes

    other : (v : ℕ) → v < 256 → stands_for shifted v ≡ true → (v ≡ bv → ⊥) → Other shifted bv v
    other v h s ne = record { stands = record { byte = h; candidate = s }; differs = ne }

    pub sole-is : (v : ℕ) → v < 256 → stands_tested v ≡ true → v ≡ bv
    sole-is v h e = go (ℕ_discrete v bv)
      where
        go : Dec (v ≡ bv) → v ≡ bv
        go (yes d) = d
        go (no ne) =
            absurd (never_both (q.alone v (other v h (and_left (stands_for shifted v) (tested v) e) ne)) (and_right (stands_for shifted v) (tested v) e))

    pub sole-number : verified_number lim shifted n t ≡ 1
    unfolding verified_number
    sole-number =
        omega (
          arith,
          many-some stands_tested 256 bv q.stands.byte (and_yes (stands_for shifted bv) (tested bv) q.stands.candidate sole-verified),
          all-equal stands_tested 256 (λ j k l m e f. sole-is j l e ∙ sym (sole-is k m f)),
        )

    weak : (v : ℕ) → Other shifted bv v → is_strong shifted anchors v ≡ false
    unfolding is_strong
    weak v d =
        ap₂ ◌||◌ (lt-leb 2 (votes_for shifted v) (q.unvoted v d))
        (and-not-both (is_in v anchors) (eqb v (top_value shifted))
        (λ i e. never_both (q.unanchored v d (eqb-true v (top_value shifted) e)) i))

    sole-disputed : (v : ℕ) → v < 256 → in_dispute v ≡ true → v ≡ bv
    sole-disputed v h e = go (ℕ_discrete v bv)
      where
        go : Dec (v ≡ bv) → v ≡ bv
        go (yes d) = d
        go (no ne) =
            let d : Other shifted bv v = other v h (disputed-stands lim shifted anchors n t v e) ne in
            absurd
            (never_both (ap₂ ◌||◌ (q.alone v d) (weak v d))
            (and_right (stands_for shifted v) (tested v || is_strong shifted anchors v) (sym (disputed-one lim shifted anchors n t v sole-number) ∙ e)))

    pub sole-undisputed : disputed_number lim shifted anchors n t ≤ 1
    unfolding disputed_number
    sole-undisputed = all-equal in_dispute 256 (λ j k l m e f. sole-disputed j l e ∙ sym (sole-disputed k m f))

  -- ---- none is verified, and no two values are voted for

  module _ (zero : verified_number lim shifted n t ≡ 0) where
    voted-for : (v : ℕ) → in_dispute v ≡ true → 0 < votes_for shifted v
    voted-for v e =
        ltb-true 0 (votes_for shifted v) (and_right (stands_for shifted v) (ltb 0 (votes_for shifted v)) (sym (disputed-voted lim shifted anchors n t v zero) ∙ e))

    unvoted-undisputed :
        ((v w : ℕ) → (v ≡ w → ⊥) → 0 < votes_for shifted v → 0 < votes_for shifted w → ⊥) → disputed_number lim shifted anchors n t ≤ 1
    unfolding disputed_number
    unvoted-undisputed apart =
        all-equal in_dispute 256 (λ j k l m e f. go j k (voted-for j e) (voted-for k f) (ℕ_discrete j k))
      where
        go : (j k : ℕ) → 0 < votes_for shifted j → 0 < votes_for shifted k → Dec (j ≡ k) → j ≡ k
        go j k e f (yes d) = d
        go j k e f (no ne) = absurd (apart j k ne e f)

    pub one-undisputed : exact_sectors shifted ≤ 1 → disputed_number lim shifted anchors n t ≤ 1
    one-undisputed h = unvoted-undisputed (λ v w ne e f. omega (arith, votes-apart shifted w v ne))

    pub agreed-undisputed : (bv : ℕ) → votes_for shifted bv ≡ exact_sectors shifted → disputed_number lim shifted anchors n t ≤ 1
    agreed-undisputed bv h = unvoted-undisputed (λ v w ne e f. two v w ne e f (ℕ_discrete v bv))
      where
        two : (v w : ℕ) → (v ≡ w → ⊥) → 0 < votes_for shifted v → 0 < votes_for shifted w → Dec (v ≡ bv) → ⊥
        two v w ne e f (yes d) = omega (arith, votes-apart shifted bv w (λ x. ne (d ∙ sym x)))
        two v w ne e f (no d) = omega (arith, votes-apart shifted bv v d)

-- an exact sector, where there is one
pub exact-at : (shifted : List ℕ) → 0 < exact_sectors shifted → First (λ s. s) (is_exact shifted) 0 8
unfolding exact_sectors
exact-at shifted h = first_passes (λ s. s) (is_exact shifted) 0 8 h
