-- What the exact sectors vote for: where all vote for one value, and where one vote leaves none for another. Assumes nothing.
use Prim.Native.Nat.{ℕ, ◌+◌, ◌*◌, ◌≤◌, ◌<◌}
use mathlib.Core.Path.{◌≡◌, refl, sym, ap, ◌∙◌}
use mathlib.Core.Bool.{Bool, true, false, not, ◌&&◌, ◌||◌}
use mathlib.Core.List.{List}
use native.Mathlib.Omega.{arith}
use borrow.Author.Tests.{eq-eqb, ne_eqb, eqb-true, lt-ltb}
use lib.Dec.{eqb}
use lib.ListN.{length}
use Rattle.lists.specs.Bytes.{byte_at, AllBytes}
use Rattle.lists.proofs.Booleans.{not-true, and_yes, and_left, and_right}
use Rattle.lists.proofs.Many.{many-zero, many-some, many-ext, many-weaker}
use Rattle.votes.specs.Votes.{counts_of, ballots, is_common, is_candidate}
use Rattle.meanings.specs.Values.{is_exact, exact_value, exact_sectors, votes_for, dissent_from, stands_for}
use Rattle.meanings.proofs.Values.{ballots-at, exact-parted}

module _ (shifted : List ℕ) where
  pub voted-stands : (v : ℕ) → v < 256 → 0 < votes_for shifted v → stands_for shifted v ≡ true
  unfolding stands_for is_candidate
  voted-stands v h k =
      ap (λ (b : Bool). b || is_common (counts_of shifted) v) (lt-ltb 0 (byte_at (counts_of (ballots shifted)) v) (omega (arith, ballots-at shifted v h)))

  pub value-byte : length shifted ≡ 4080 → AllBytes shifted → (s : ℕ) → s < 8 → exact_value shifted s < 256
  value-byte long b s h = b.at (s * 512) (omega arith)

  pub value-voted : (s v : ℕ) → s < 8 → is_exact shifted s ≡ true → exact_value shifted s ≡ v → 0 < votes_for shifted v
  unfolding votes_for
  value-voted s v h x e =
      many-some (λ s. is_exact shifted s && eqb (exact_value shifted s) v) 8 s h
      (and_yes (is_exact shifted s) (eqb (exact_value shifted s) v) x (eq-eqb (exact_value shifted s) v e))

  -- where a value alone is voted for, every exact sector votes for it
  module _ (long : length shifted ≡ 4080) (bytes : AllBytes shifted) where
    pub vote-alone :
        (bv : ℕ)
        → ((v : ℕ) → v < 256 → 0 < votes_for shifted v → v ≡ bv)
        → (s : ℕ)
        → s < 8
        → is_exact shifted s ≡ true
        → exact_value shifted s ≡ bv
    vote-alone bv only s h x = only (exact_value shifted s) (value-byte long bytes s h) (value-voted s (exact_value shifted s) h x refl)

    pub none-exact : ((v : ℕ) → v < 256 → 0 < votes_for shifted v → ⊥) → exact_sectors shifted ≡ 0
    unfolding exact_sectors
    none-exact none =
        many-zero (is_exact shifted) 8
        (λ s h. not-true (is_exact shifted s) (λ x. none (exact_value shifted s) (value-byte long bytes s h) (value-voted s (exact_value shifted s) h x refl)))

  pub all-agree : (bv : ℕ) → ((s : ℕ) → s < 8 → is_exact shifted s ≡ true → exact_value shifted s ≡ bv) → votes_for shifted bv ≡ exact_sectors shifted
  unfolding votes_for exact_sectors
  all-agree bv agree =
      many-ext (λ s. is_exact shifted s && eqb (exact_value shifted s) bv) (is_exact shifted) 8 (λ s h. one s (is_exact shifted s) (λ x. agree s h x))
    where
      one : (s : ℕ) (b : Bool) → (b ≡ true → exact_value shifted s ≡ bv) → (b && eqb (exact_value shifted s) bv) ≡ b
      one s true e = eq-eqb (exact_value shifted s) bv (e refl)
      one s false e = refl

  -- votes for two values are votes of different sectors
  pub votes-apart : (v w : ℕ) → (w ≡ v → ⊥) → votes_for shifted v + votes_for shifted w ≤ exact_sectors shifted
  unfolding votes_for dissent_from
  votes-apart v w ne =
      omega (
        arith,
        exact-parted shifted v,
        many-weaker (λ s. is_exact shifted s && eqb (exact_value shifted s) w) (λ s. is_exact shifted s && not (eqb (exact_value shifted s) v)) 8
            (λ s h t.
            and_yes (is_exact shifted s) (not (eqb (exact_value shifted s) v)) (and_left (is_exact shifted s) (eqb (exact_value shifted s) w) t)
            (ap not
            (ne_eqb (exact_value shifted s) v (λ e. ne (sym (eqb-true (exact_value shifted s) w (and_right (is_exact shifted s) (eqb (exact_value shifted s) w) t)) ∙ e))))),
      )
