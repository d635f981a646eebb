-- Laws of page types: the code's cases, and what reading a type byte and writing it back keeps. Assumes nothing.
use Prim.Native.Nat.{ℕ, ◌-◌, ◌≤◌}
use mathlib.Core.Path.{◌≡◌, refl, sym, ap, ◌∙◌}
use mathlib.Core.Bool.{Bool, true, false}
use mathlib.Core.Logic.{◌⊎◌, inl, inr, ⊎_elim, ◌↔◌}
use native.Mathlib.Omega.{arith}
use borrow.Author.Tests.{le-leb, leb-true, eqb-true}
use lib.Dec.{eqb, leb}
use Rattle.std.specs.Char.{to_ascii_uppercase}
use Rattle.std.proofs.lemmas.Bool.Decides.{nat_tests}
use Rattle.lists.specs.Cases.{pick}
use Rattle.lists.proofs.Picks.{pick-case, never_both}
use Rattle.page_type.specs.Types.{is_variant, upper_of, letter_of, type_of, byte_of}
use Rattle.page_type.specs.declared.PageType.{PageType}
use Rattle.page_type.specs.declared.PageType.TheVariants.{Extent, Alloc, Map, Header, Catalog, Bootstrap, Index, Other}

-- which case it is, from what the code tested
variant-letter : (b : ℕ) → 0x61 ≤ b → b ≤ 0x7A → is_variant b ≡ true
variant-letter b h k = rw (le-leb 0x61 b h, le-leb b 0x7A k)

-- the library's upper case is the rule's
pub upper_is : (b u : ℕ) → u ≡ to_ascii_uppercase b → u ≡ upper_of b
unfolding upper_of
upper_is b u e = e ∙ go
  where
    go : to_ascii_uppercase b ≡ pick (is_variant b) (b - 0x20) b
    go = grind (arith, nat_tests)

upper-plain : (b : ℕ) → is_variant b ≡ false → upper_of b ≡ b
unfolding upper_of
upper-plain b e = rw e

upper-variant : (b : ℕ) → is_variant b ≡ true → upper_of b ≡ b - 0x20
unfolding upper_of
upper-variant b e = rw e

-- the bytes 0x61 to 0x7A are variants, and no other
pub variant-iff : (b : ℕ) → (is_variant b ≡ true) ↔ ((0x61 ≤ b) × (b ≤ 0x7A))
variant-iff b = (there (leb 0x61 b) refl, λ h. variant-letter b h.0 h.1)
  where
    there : (t : Bool) → leb 0x61 b ≡ t → pick t (leb b 0x7A) false ≡ true → (0x61 ≤ b) × (b ≤ 0x7A)
    there true e q = (leb-true 0x61 b e, leb-true b 0x7A q)
    there false e q = absurd (never_both refl q)

-- the byte that Other keeps; where it is no Other, b
kept_of : PageType → ℕ → ℕ
kept_of (Other x) b = x
kept_of Extent b = b
kept_of Alloc b = b
kept_of Map b = b
kept_of Header b = b
kept_of Catalog b = b
kept_of Bootstrap b = b
kept_of Index b = b

-- a type that a letter names is written as that letter; any other letter gives Other with the byte
record Back (letter b : ℕ) (t : PageType) : Type 0 where
  back : (byte_of t ≡ letter) ⊎ (t ≡ Other b)
  kept : kept_of t b ≡ b

letter-back : (letter b : ℕ) → Back letter b (letter_of letter b)
unfolding letter_of kept_of
letter-back letter b =
    go 0x45 Extent refl refl
    (go 0x41 Alloc refl refl
    (go 0x4D Map refl refl
    (go 0x48 Header refl refl
    (go 0x43 Catalog refl refl (go 0x40 Bootstrap refl refl (go 0x49 Index refl refl (record { back = inr refl; kept = refl })))))))
  where
    go : (x : ℕ) (t : PageType) → byte_of t ≡ x → kept_of t b ≡ b → {u : PageType} → Back letter b u → Back letter b (pick (eqb letter x) t u)
    go x t e k {u} r =
        pick-case (Back letter b) (eqb letter x) t u (λ q. record { back = inl (e ∙ sym (eqb-true letter x q)); kept = k }) (λ q. r)

-- a byte that is no variant comes back as it was
pub plain_back : (b : ℕ) → is_variant b ≡ false → byte_of (type_of b) ≡ b
plain_back b e =
    ⊎_elim (λ q. q ∙ upper-plain b e) (λ q. ap byte_of q) (letter-back (upper_of b) b).back

-- a variant comes back as its upper-case letter, or Other keeps it
pub variant_back : (b : ℕ) → is_variant b ≡ true → (byte_of (type_of b) ≡ b - 0x20) ⊎ (type_of b ≡ Other b)
variant_back b e = ⊎_elim (λ q. inl (q ∙ upper-variant b e)) (λ q. inr q) (letter-back (upper_of b) b).back

-- Other keeps its byte
pub other-keeps : (b x : ℕ) → type_of b ≡ Other x → x ≡ b
unfolding kept_of
other-keeps b x e = sym (ap (λ (t : PageType). kept_of t b) e) ∙ (letter-back (upper_of b) b).kept

-- the document's own bytes
pub lower-extent : (type_of 0x65 ≡ Extent) × (is_variant 0x65 ≡ true) × (byte_of (type_of 0x65) ≡ 0x45)
unfolding upper_of letter_of
lower-extent = (refl, refl, refl)

pub backquote-other : (type_of 0x60 ≡ Other 0x60) × (is_variant 0x60 ≡ false)
unfolding upper_of letter_of
backquote-other = (refl, refl)
