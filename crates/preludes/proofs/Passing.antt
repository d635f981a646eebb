-- Laws of the fields that the prelude search passes over. Assumes nothing.
use Prim.Native.Nat.{ℕ, zero, suc, ◌+◌, ◌-◌, ◌≤◌, ◌<◌, min}
use mathlib.Core.Path.{◌≡◌, refl, sym, ap, ◌∙◌}
use mathlib.Core.List.{List}
use mathlib.Core.Bool.{false}
use native.Mathlib.Omega.{arith}
use native.Mathlib.Nat.{add-zero}
use lib.ListN.{length, take, drop, length-drop}
use lib.Seq.{length-take-le}
use borrow.Author.Tests.{eq-eqb}
use Rattle.lists.specs.Bytes.{less, plain_of, byte_at, pair_at}
use Rattle.lists.proofs.Plain.{plain_at}
use Rattle.lists.proofs.Picks.{never_both}
use Rattle.slots.specs.Pairs.{has_pair}
use Rattle.slots.proofs.RowCounts.{not_there, part_at}
use Rattle.preludes.specs.Preludes.{prelude_of}
use Rattle.preludes.specs.Passes.{Passed, NextField}
use Rattle.preludes.specs.declared.search.Prelude.{Prelude}
use Rattle.preludes.proofs.Fields.{field-other}

-- fields that do not hold n
fields-passed : (p : List ℕ) (n f more : ℕ) → ((i : ℕ) → i < more → pair_at p (f + i) ≡ n → ⊥) → prelude_of (f + more) p n ≡ prelude_of f p n
fields-passed p n f zero h = ap (λ (k : ℕ). prelude_of k p n) (add-zero f)
fields-passed p n f (suc more) h =
    let e : f + more + 1 ≡ f + suc more = omega arith in
    ap (λ (k : ℕ). prelude_of k p n) (sym e)
    ∙ sym (field-other p n (f + more) (pair_at p (f + more)) refl (prelude_of (f + more) p n) refl (h more (omega arith)))
    ∙ fields-passed p n f more (λ i l. h i (omega arith))

module _ (p : List ℕ) (n from end : ℕ) where
  -- at the start
  pub pass-none : from ≤ end → Passed p n from end from
  pass-none h = record { on = omega arith; within = h; same = refl }

  module _ (at : ℕ) (g : Passed p n from end at) where
    -- a block with no pair
    pub pass-block :
        (k : ℕ)
        → k ≡ 65
        → n < 256
        → at + 64 ≤ end
        → end ≤ length p - 1
        → has_pair n 0 (plain_of 0 (take k (drop at p))) (min 64 (length (take k (drop at p)) - 1)) ≡ false
        → Passed p n from end (at + 64)
    pass-block k e small h l none-there =
        record {
          on = omega (arith, g.on);
          within = h;
          same = fields-passed p n at 64 none ∙ g.same;
        }
      where
        whole : length (take k (drop at p)) ≡ k
        whole = length-take-le k (drop at p) (omega (arith, length-drop at p))

        all : has_pair n 0 (plain_of 0 (take k (drop at p))) 64 ≡ false
        all = let m : min 64 (length (take k (drop at p)) - 1) ≡ 64 = omega (arith, whole) in rw m at none-there

        none : (i : ℕ) → i < 64 → pair_at p (at + i) ≡ n → ⊥
        none i s q =
            let a : byte_at (plain_of 0 (take k (drop at p))) i ≡ less (byte_at p (at + i)) 0 = part_at 0 p at k i (omega arith) (omega arith) ∙ plain_at 0 p (at + i) (omega arith) in
            let b : byte_at (plain_of 0 (take k (drop at p))) (i + 1) ≡ less (byte_at p (at + (i + 1))) 0 = part_at 0 p at k (i + 1) (omega arith) (omega arith) ∙ plain_at 0 p (at + (i + 1)) (omega arith) in
            let f : at + (i + 1) ≡ at + i + 1 = omega arith in
            let c : byte_at p (at + (i + 1)) ≡ byte_at p (at + i + 1) = ap (byte_at p) f in
            let low : byte_at (plain_of 0 (take k (drop at p))) i ≡ n = omega (arith, a, q) in
            let high : byte_at (plain_of 0 (take k (drop at p))) (i + 1) ≡ 0 = omega (arith, b, c, q) in
            never_both (not_there n 0 (plain_of 0 (take k (drop at p))) 64 all i s) (rw (eq-eqb _ n low, eq-eqb _ 0 high) refl)

    -- one field that does not hold n; one that does; the end
    pub pass-one : (w : ℕ) → w ≡ pair_at p at → at < end → (w ≡ n → ⊥) → Passed p n from end (at + 1)
    pass-one w e h d =
        record {
          on = omega (arith, g.on);
          within = omega arith;
          same = sym (field-other p n at w e (prelude_of at p n) refl d) ∙ g.same;
        }

    pub pass-found : (w : ℕ) → w ≡ pair_at p at → w ≡ n → NextField p n from end at
    pass-found w e d = record { passed = g; holds = λ h. sym e ∙ d }

    pub pass-end : end ≤ at → NextField p n from end at
    pass-end h = record { passed = g; holds = λ l. absurd (omega arith) }

-- what was seen up to one field was seen up to the next one
pub next-seen :
    (p : List ℕ) (n from end field : ℕ) (seen : Prelude)
    → NextField p n from end field
    → seen ≡ prelude_of from p n
    → (field ≤ end) × (seen ≡ prelude_of field p n) × (field < end → pair_at p field ≡ n)
next-seen p n from end field seen x q = (x.passed.within, q ∙ sym x.passed.same, x.holds)
