-- Bytes that are put whole or not at all, by whether the place that comes back is another. Assumes nothing.
use Rattle.std.proofs.Common.{ℕ, ◌+◌, ◌≤◌, ◌≡◌, refl, sym, subst, ◌∙◌, arith, Bool, true, false, List, ◌∷◌, length}
use borrow.Author.Tests.{leb-true}
use Rattle.numbers.specs.Writes.{fits, written, past, Wrote}
use Rattle.numbers.proofs.Stored.{past-fit}
use Rattle.fields.specs.Fields.{Field, Put}

fits-moved : (l : List ℕ) (a k : ℕ) (b : Bool) → fits l a k ≡ b → (past l a k ≡ a → ⊥) → a + k ≤ length l
unfolding past
fits-moved l a k true e h = leb-true (a + k) (length l) e
fits-moved l a k false e h = absurd (h (rw e refl))

written-stayed : (l : List ℕ) (a y : ℕ) (ys : List ℕ) (b : Bool) → fits l a (length (y ∷ ys)) ≡ b → past l a (length (y ∷ ys)) ≡ a → written l a (y ∷ ys) ≡ l
unfolding written
written-stayed l a y ys true e h = absurd (omega (arith, h, past-fit l a (length (y ∷ ys)) (leb-true (a + length (y ∷ ys)) (length l) e)))
written-stayed l a y ys false e h = rw e refl

-- there was room for them
pub wrote-moved : {l ys after : List ℕ} {a next : ℕ} → Wrote l a ys after next → (next ≡ a → ⊥) → a + length ys ≤ length l
wrote-moved {l} {ys} {after} {a} {next} w h = fits-moved l a (length ys) (fits l a (length ys)) refl (λ e. h (w.place ∙ e))

-- there was none, and fields are put into the buffer as it was
pub put-stayed :
    {l ys mid after : List ℕ} {a y end next : ℕ} {fs : List Field}
    → Wrote l a (y ∷ ys) mid end
    → end ≡ a
    → Put mid a fs after next
    → Put l a fs after next
put-stayed {l} {ys} {mid} {after} {a} {y} {end} {next} {fs} w e q =
    let same : mid ≡ l = w.bytes ∙ written-stayed l a y ys (fits l a (length (y ∷ ys))) refl (sym w.place ∙ e) in
    subst (λ (o : List ℕ). Put o a fs after next) same q
