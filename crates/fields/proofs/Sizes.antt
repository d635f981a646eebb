-- A layout has as many bytes as its fields' widths say, and is made of its parts. Assumes nothing.
use Prim.Native.Nat.{ℕ, zero, suc, ◌+◌, ◌*◌}
use mathlib.Core.Path.{◌≡◌, refl, sym, ap, ap₂, ◌∙◌}
use mathlib.Core.List.{List, [], ◌∷◌, ◌++◌, append_assoc}
use native.Mathlib.Omega.{arith}
use lib.ListN.{length, length-append}
use Rattle.lists.specs.Pieces.{joined}
use Rattle.numbers.proofs.Widths.{little-long, big-long}
use Rattle.fields.specs.Fields.{Field, little, big, width_of, field_bytes, size_of, layout_bytes}

pub field-long : (f : Field) → length (field_bytes f) ≡ width_of f
unfolding field_bytes width_of
field-long (little k n) = little-long k n
field-long (big k n) = big-long k n

pub fields-long : (fs : List Field) → length (layout_bytes fs) ≡ size_of fs
unfolding layout_bytes size_of
fields-long [] = refl
fields-long (f ∷ fs) = length-append (field_bytes f) (layout_bytes fs) ∙ ap₂ (λ (a b : ℕ). a + b) (field-long f) (fields-long fs)

pub size-append : (fs gs : List Field) → size_of (fs ++ gs) ≡ size_of fs + size_of gs
unfolding size_of
size-append [] gs = omega arith
size-append (f ∷ fs) gs = omega (arith, size-append fs gs)

-- a table of n entries of w bytes each
pub table-size : (f : ℕ → List Field) (w n : ℕ) → ((k : ℕ) → size_of (f k) ≡ w) → size_of (joined f n) ≡ n * w
unfolding joined size_of
table-size f w zero h = omega arith
table-size f w (suc n) h = size-append (joined f n) (f n) ∙ omega (arith, table-size f w n h, h n)

-- the bytes of two parts, one behind the other
pub layout-append : (fs gs : List Field) → layout_bytes (fs ++ gs) ≡ layout_bytes fs ++ layout_bytes gs
unfolding layout_bytes
layout-append [] gs = refl
layout-append (f ∷ fs) gs =
    ap (λ (l : List ℕ). field_bytes f ++ l) (layout-append fs gs) ∙ sym (append_assoc (field_bytes f) (layout_bytes fs) (layout_bytes gs))
