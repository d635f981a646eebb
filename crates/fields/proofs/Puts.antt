-- Fields that are put one behind the other are, where they fit, the layout written over the buffer. Assumes nothing.
use Prim.Native.Nat.{ℕ, ◌+◌, ◌≤◌, ◌<◌}
use mathlib.Core.Path.{◌≡◌, refl, sym, ap, ap₂, ◌∙◌}
use mathlib.Core.List.{List, [], ◌∷◌, ◌++◌}
use native.Mathlib.Omega.{arith}
use lib.ListN.{length}
use Rattle.lists.specs.Pieces.{over}
use Rattle.lists.proofs.Over.{over-length, over_none, over-then}
use Rattle.numbers.specs.Numbers.{little_bytes}
use Rattle.numbers.specs.Writes.{written, past, Wrote}
use Rattle.numbers.proofs.Stored.{written-fit, past-fit, written-long, wrote-not, wrote-over, wrote-same}
use Rattle.fields.specs.Fields.{Field, little, width_of, field_bytes, size_of, layout_bytes, puts, place_after, Put}
use Rattle.fields.proofs.Sizes.{field-long, fields-long}

puts-append : (l : List ℕ) (a : ℕ) (fs gs : List Field) → puts l a (fs ++ gs) ≡ puts (puts l a fs) (place_after l a fs) gs
unfolding puts place_after
puts-append l a [] gs = refl
puts-append l a (f ∷ fs) gs = puts-append (written l a (field_bytes f)) (past l a (width_of f)) fs gs

place-append : (l : List ℕ) (a : ℕ) (fs gs : List Field) → place_after l a (fs ++ gs) ≡ place_after (puts l a fs) (place_after l a fs) gs
unfolding puts place_after
place-append l a [] gs = refl
place-append l a (f ∷ fs) gs = place-append (written l a (field_bytes f)) (past l a (width_of f)) fs gs

-- no field; one field, and then others; fields, and then others
pub put-none : {l : List ℕ} {a : ℕ} → Put l a [] l a
unfolding puts place_after
put-none = record { bytes = refl; place = refl }

pub put-field : {l o after : List ℕ} {a p next : ℕ} {f : Field} {fs : List Field} → Wrote l a (field_bytes f) o p → Put o p fs after next → Put l a (f ∷ fs) after next
unfolding puts place_after
put-field {l} {o} {after} {a} {p} {next} {f} {fs} w r =
    let q : p ≡ past l a (width_of f) = w.place ∙ ap (past l a) (field-long f) in
    record {
      bytes = r.bytes ∙ ap₂ (λ (v : List ℕ) (n : ℕ). puts v n fs) w.bytes q;
      place = r.place ∙ ap₂ (λ (v : List ℕ) (n : ℕ). place_after v n fs) w.bytes q;
    }

-- a field of a number that is known by an equation, and then others
pub put-known :
    {l o after : List ℕ} {a p next k n m : ℕ} {fs : List Field}
    → n ≡ m
    → Wrote l a (little_bytes k n) o p
    → Put o p fs after next
    → Put l a (little k m ∷ fs) after next
unfolding field_bytes
put-known {k = k} e w r = put-field (wrote-same (ap (little_bytes k) e) w) r

pub put_then : {l o after : List ℕ} {a p next : ℕ} {fs gs : List Field} → Put l a fs o p → Put o p gs after next → Put l a (fs ++ gs) after next
put_then {l} {o} {after} {a} {p} {next} {fs} {gs} q r =
    record {
      bytes = r.bytes ∙ ap₂ (λ (v : List ℕ) (n : ℕ). puts v n gs) q.bytes q.place ∙ sym (puts-append l a fs gs);
      place = r.place ∙ ap₂ (λ (v : List ℕ) (n : ℕ). place_after v n gs) q.bytes q.place ∙ sym (place-append l a fs gs);
    }

puts-over : (l : List ℕ) (a : ℕ) (fs : List Field) → a + size_of fs ≤ length l → puts l a fs ≡ over l a (layout_bytes fs)
unfolding puts size_of layout_bytes
puts-over l a [] h = sym (over_none l a)
puts-over l a (f ∷ fs) h =
    let b : List ℕ = field_bytes f in
    let w : length b ≡ width_of f = field-long f in
    let n : length (over l a b) ≡ length l = over-length l b a (omega arith) in
    ap₂ (λ (v : List ℕ) (k : ℕ). puts v k fs) (written-fit l a b (omega arith)) (past-fit l a (width_of f) (omega arith))
    ∙ puts-over (over l a b) (a + width_of f) fs (omega arith)
    ∙ over-then l a b (layout_bytes fs) (a + width_of f) (omega arith) (omega (arith, fields-long fs))

place-over : (l : List ℕ) (a : ℕ) (fs : List Field) → a + size_of fs ≤ length l → place_after l a fs ≡ a + size_of fs
unfolding place_after size_of
place-over l a [] h = omega arith
place-over l a (f ∷ fs) h =
    let b : List ℕ = field_bytes f in
    ap (λ (k : ℕ). place_after (written l a b) k fs) (past-fit l a (width_of f) (omega arith))
    ∙ place-over (written l a b) (a + width_of f) fs (omega (arith, written-long l a b))
    ∙ omega arith

-- the buffer keeps its length
puts-long : (l : List ℕ) (a : ℕ) (fs : List Field) → length (puts l a fs) ≡ length l
unfolding puts
puts-long l a [] = refl
puts-long l a (f ∷ fs) = puts-long (written l a (field_bytes f)) (past l a (width_of f)) fs ∙ written-long l a (field_bytes f)

pub put-long : {l after : List ℕ} {a next : ℕ} {fs : List Field} → Put l a fs after next → length after ≡ length l
put-long {l} {after} {a} {next} {fs} q = ap length q.bytes ∙ puts-long l a fs

-- a whole layout of n bytes: the buffer has no room for it, or it was put
pub layout-short : {l : List ℕ} {a n : ℕ} (fs : List Field) → size_of fs ≡ n → length l < a + n → Wrote l a (layout_bytes fs) l a
layout-short fs e h = wrote-not (omega (arith, fields-long fs))

pub layout-put : {l after : List ℕ} {a next n : ℕ} {fs : List Field} → size_of fs ≡ n → Put l a fs after next → a + n ≤ length l → Wrote l a (layout_bytes fs) after next
layout-put {l} {after} {a} {next} {n} {fs} e q h =
    let k : length (layout_bytes fs) ≡ size_of fs = fields-long fs in
    wrote-over (omega arith) (q.bytes ∙ puts-over l a fs (omega arith)) (q.place ∙ place-over l a fs (omega arith) ∙ omega arith)

-- fields of m bytes, and then a layout of n bytes that was written whole, where there is room for both
pub put_whole :
    {l o after : List ℕ} {a p next m n : ℕ} {fs : List Field} (gs : List Field)
    → size_of fs ≡ m
    → size_of gs ≡ n
    → Put l a fs o p
    → Wrote o p (layout_bytes gs) after next
    → a + (m + n) ≤ length l
    → Put l a (fs ++ gs) after next
put_whole {l} {o} {after} {a} {p} {next} {m} {n} {fs} gs em en q w h =
    let same : length o ≡ length l = put-long q in
    let k : length (layout_bytes gs) ≡ size_of gs = fields-long gs in
    let e : p ≡ a + size_of fs = q.place ∙ place-over l a fs (omega arith) in
    put_then q (record {
      bytes = w.bytes ∙ written-fit o p (layout_bytes gs) (omega arith) ∙ sym (puts-over o p gs (omega arith));
      place = w.place ∙ past-fit o p (length (layout_bytes gs)) (omega arith) ∙ ap (λ (i : ℕ). p + i) k ∙ sym (place-over o p gs (omega arith));
    })
