-- Which of two candidates ranks above the other: the first difference decides. Assumes nothing.
use Rattle.std.proofs.Common.{◌≡◌, ℕ, ◌≤◌, ◌<◌, Bool, true, false, cond, refl, sym, ◌∙◌, arith, ◌⊎◌, inl, inr, eq-eqb, ne_eqb}
use Rattle.std.proofs.lemmas.Bool.{cases_lt}
use Rattle.std.specs.Ordering.{ordering_then, is_eq, is_lt, nat_cmp, bool_cmp}
use Rattle.std.specs.declared.cmp.Ordering.{Ordering}
use Rattle.std.specs.declared.cmp.Ordering.TheVariants.{Less, Equal, Greater}
use native.Mathlib.Decide.{ℕ_discrete}
use borrow.Author.Tests.{lt-ltb, le-ltb}
use lib.Dec.{eqb, ltb}
use Rattle.lists.specs.Cases.{pick, flag}
use Rattle.votes.specs.declared.Candidate.{Candidate}
use Rattle.groups.specs.Groups.{outranks}

-- five comparisons, one after the other
five :
    (a b c d e : Ordering)
    → is_lt (ordering_then (ordering_then (ordering_then (ordering_then a b) c) d) e)
    ≡ pick (is_eq a) (pick (is_eq b) (pick (is_eq c) (pick (is_eq d) (is_lt e) (is_lt d)) (is_lt c)) (is_lt b)) (is_lt a)
five Less b c d e = refl
five Greater b c d e = refl
five Equal Less c d e = refl
five Equal Greater c d e = refl
five Equal Equal Less d e = refl
five Equal Equal Greater d e = refl
five Equal Equal Equal Less e = refl
five Equal Equal Equal Greater e = refl
five Equal Equal Equal Equal e = refl

nat-lt : (x y : ℕ) → is_lt (nat_cmp x y) ≡ ltb x y
nat-lt x y = go (ltb x y) (eqb x y)
  where
    go : (b e : Bool) → is_lt (cond b Less (cond e Equal Greater)) ≡ b
    go true e = refl
    go false true = refl
    go false false = refl

nat-eq : (x y : ℕ) → is_eq (nat_cmp y x) ≡ eqb x y
nat-eq x y = go (ℕ_discrete x y) (cases_lt y x)
  where
    go : Dec (x ≡ y) → (y < x) ⊎ (x ≤ y) → is_eq (nat_cmp y x) ≡ eqb x y
    go (yes e) c = rw (eq-eqb x y e, eq-eqb y x (sym e), le-ltb y x (omega arith))
    go (no ne) (inl h) = rw (ne_eqb x y ne, lt-ltb y x h)
    go (no ne) (inr h) = rw (ne_eqb x y ne, ne_eqb y x (λ e. ne (sym e)), le-ltb y x h)

bool-lt : (x y : Bool) → is_lt (bool_cmp x y) ≡ ltb (flag x) (flag y)
bool-lt false false = refl
bool-lt false true = refl
bool-lt true false = refl
bool-lt true true = refl

bool-eq : (x y : Bool) → is_eq (bool_cmp y x) ≡ eqb (flag x) (flag y)
bool-eq false false = refl
bool-eq false true = refl
bool-eq true false = refl
bool-eq true true = refl

pub ranks-above :
    (a b : Candidate)
    → is_lt
    (ordering_then
    (ordering_then (ordering_then (ordering_then (nat_cmp b.votes a.votes) (bool_cmp b.verified a.verified)) (bool_cmp b.anchored a.anchored)) (nat_cmp b.zeros a.zeros))
    (nat_cmp a.bv b.bv))
    ≡ outranks a b
unfolding outranks
ranks-above a b =
    five (nat_cmp b.votes a.votes) (bool_cmp b.verified a.verified) (bool_cmp b.anchored a.anchored) (nat_cmp b.zeros a.zeros) (nat_cmp a.bv b.bv)
    ∙ rw (
      nat-eq a.votes b.votes,
      nat-lt b.votes a.votes,
      bool-eq a.verified b.verified,
      bool-lt b.verified a.verified,
      bool-eq a.anchored b.anchored,
      bool-lt b.anchored a.anchored,
      nat-eq a.zeros b.zeros,
      nat-lt b.zeros a.zeros,
      nat-lt a.bv b.bv,
    )
