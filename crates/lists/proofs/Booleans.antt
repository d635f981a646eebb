-- Laws of `&&`, `||` and `not`, by what is known of a part and what is known of the whole. Assumes nothing.
use mathlib.Core.Path.{◌≡◌, refl, sym, ap, ◌∙◌}
use mathlib.Core.Bool.{Bool, true, false, ◌&&◌, ◌||◌, not, not-not}
use Rattle.lists.proofs.Picks.{never_both}

pub not-true : (b : Bool) → (b ≡ true → ⊥) → b ≡ false
not-true true f = absurd (f refl)
not-true false f = refl

pub not_back : {b t : Bool} → not b ≡ t → b ≡ not t
not_back {b} e = sym (not-not b) ∙ ap not e

-- ---- from the parts to the whole

pub and_yes : (a b : Bool) → a ≡ true → b ≡ true → (a && b) ≡ true
and_yes a b e f = rw (e, f)

pub and-no-left : (a b : Bool) → a ≡ false → (a && b) ≡ false
and-no-left a b e = rw e

pub and-no-right : (a b : Bool) → b ≡ false → (a && b) ≡ false
and-no-right true b e = e
and-no-right false b e = refl

pub and-not-both : (a b : Bool) → (a ≡ true → b ≡ true → ⊥) → (a && b) ≡ false
and-not-both true true f = absurd (f refl refl)
and-not-both true false f = refl
and-not-both false b f = refl

pub or_yes_right : (a b : Bool) → b ≡ true → (a || b) ≡ true
or_yes_right true b e = refl
or_yes_right false b e = e

pub or_nothing : (b : Bool) → (b || false) ≡ b
or_nothing true = refl
or_nothing false = refl

-- ---- from the whole to the parts

pub and_left : (a b : Bool) → (a && b) ≡ true → a ≡ true
and_left true b e = refl
and_left false b e = e

pub and_right : (a b : Bool) → (a && b) ≡ true → b ≡ true
and_right true b e = e
and_right false b e = absurd (never_both refl e)

pub or_case : (P : Type 0) (a b : Bool) → (a || b) ≡ true → (a ≡ true → P) → (b ≡ true → P) → P
or_case P true b e f g = f refl
or_case P false b e f g = g e

pub or-no-left : (a b : Bool) → (a || b) ≡ false → a ≡ false
or-no-left true b e = e
or-no-left false b e = refl

pub or-no-right : (a b : Bool) → (a || b) ≡ false → b ≡ false
or-no-right true b e = absurd (never_both e refl)
or-no-right false b e = e
