-- Laws of lent fits: what the loop over their marks has seen, and that each is told as it was lent. Assumes nothing.
use Prim.Native.Nat.{ℕ, zero, suc, ◌+◌, ◌*◌, ◌%◌, ◌≤◌, ◌<◌}
use mathlib.Core.Path.{◌≡◌, refl, ap, ◌∙◌}
use mathlib.Core.Bool.{Bool, true, false, not}
use mathlib.Core.List.{List, [], ◌∷◌}
use native.Mathlib.Omega.{arith}
use borrow.Author.Tests.{eq-eqb, ne_eqb, lt-ltb, le-ltb}
use lib.Dec.{eqb}
use lib.ListN.{length}
use Rattle.lists.specs.Bytes.{byte_at}
use Rattle.lists.specs.Cases.{flag}
use Rattle.lists.specs.Counts.{how_many}
use Rattle.lists.proofs.Many.{many-none, many-yes, many-no, many-grows}
use Rattle.numbers.specs.Numbers.{little_bytes}
use Rattle.fields.specs.Fields.{field_bytes, layout_bytes}
use Rattle.parts.specs.Parts.{fit_size, fits_size, fit_fields}
use Rattle.parts.specs.Lent.{is_no_mark, is_lent, fit_in, fits_in, fits_lent}
use Rattle.sector.specs.declared.fits.Fit.{Fit}
use Rattle.std.proofs.Common.{Some, None}
use Rattle.lists.specs.Cases.{pick}

-- the first s fits are marked by 0 or 1
pub record MarksSeen (b : List ℕ) (s : ℕ) : Type 0 where
  pub within : s ≤ 8
  pub others : how_many (is_no_mark b) s ≡ 0

module _ (b : List ℕ) where
  pub marked-none : MarksSeen b 0
  marked-none = record { within = omega arith; others = many-none (is_no_mark b) }

  pub lent-short : (length b ≡ fits_size → ⊥) → false ≡ is_lent b
  unfolding is_lent
  lent-short h = rw (ne_eqb (length b) fits_size h) refl

  module _ (s : ℕ) (m : MarksSeen b s) where
    pub marked_more : s < 8 → byte_at b (fit_size * s + 5) ≤ 1 → MarksSeen b (s + 1)
    marked_more h l =
        record { within = omega arith; others = many-no (is_no_mark b) s (le-ltb 1 (byte_at b (fit_size * s + 5)) l) ∙ m.others }

    pub lent_other : length b ≡ fits_size → s < 8 → 1 < byte_at b (fit_size * s + 5) → false ≡ is_lent b
    unfolding is_lent
    lent_other n h l =
        let one : how_many (is_no_mark b) (s + 1) ≡ 1 = many-yes (is_no_mark b) s (lt-ltb 1 (byte_at b (fit_size * s + 5)) l) ∙ ap (λ (k : ℕ). k + 1) m.others in
        let some : how_many (is_no_mark b) 8 ≡ 0 → ⊥ = λ e. absurd (omega (arith, many-grows (is_no_mark b) (s + 1) 8 (omega arith))) in
        rw (eq-eqb (length b) fits_size n, ne_eqb (how_many (is_no_mark b) 8) 0 some) refl

    pub lent-all : length b ≡ fits_size → 8 ≤ s → true ≡ is_lent b
    unfolding is_lent
    lent-all n h =
        let z : 8 ≡ s = omega (arith, m.within) in
        rw (eq-eqb (length b) fits_size n, eq-eqb (how_many (is_no_mark b) 8) 0 (ap (how_many (is_no_mark b)) z ∙ m.others)) refl

-- what is known of bytes that are lent as fits, and of bytes that are not
module _ (b : List ℕ) where
  pub lent-some : (fits : List Fit) → Some fits ≡ fits_lent b → (is_lent b ≡ true) × (fits ≡ fits_in b)
  lent-some fits e = go (is_lent b) refl e
    where
      go : (t : Bool) → is_lent b ≡ t → Some fits ≡ pick t (Some (fits_in b)) None → (is_lent b ≡ true) × (fits ≡ fits_in b)
      go true p f = (p, cc)
      go false p f = cc

  pub lent-none : None ≡ fits_lent b → is_lent b ≡ false
  lent-none e = go (is_lent b) refl e
    where
      go : (t : Bool) → is_lent b ≡ t → None ≡ pick t (Some (fits_in b)) None → is_lent b ≡ false
      go true p f = cc
      go false p f = p

-- a fit that was lent is told as it was lent, byte for byte
four : {a b c d a' b' c' d' : ℕ} {l l' : List ℕ} → a ≡ a' → b ≡ b' → c ≡ c' → d ≡ d' → l ≡ l' → a ∷ b ∷ c ∷ d ∷ l ≡ a' ∷ b' ∷ c' ∷ d' ∷ l'
four p q r s t = λ i. p i ∷ q i ∷ r i ∷ s i ∷ t i

mark-back : (m : ℕ) → m ≤ 1 → flag (not (eqb m 0)) % 256 ≡ m
mark-back zero h = refl
mark-back (suc zero) h = refl
mark-back (suc (suc m)) h = absurd (omega arith)

pub fit-back :
    (b : List ℕ) (at : ℕ)
    → ((i : ℕ) → byte_at b i < 256)
    → byte_at b (at + 5) ≤ 1
    → layout_bytes (fit_fields (fit_in b at))
    ≡ byte_at b at ∷ byte_at b (at + 1) ∷ byte_at b (at + 2) ∷ byte_at b (at + 3) ∷ byte_at b (at + 4) ∷ byte_at b (at + 5) ∷ byte_at b (at + 6) ∷ byte_at b (at + 7) ∷ []
unfolding layout_bytes field_bytes fit_fields fit_in little_bytes
fit-back b at bytes h =
    four
    (omega (arith, bytes at))
    (omega (arith, bytes (at + 1), bytes (at + 2)))
    (omega (arith, bytes (at + 1), bytes (at + 2)))
    (omega (arith, bytes (at + 3), bytes (at + 4)))
    (four
    (omega (arith, bytes (at + 3), bytes (at + 4)))
    (mark-back (byte_at b (at + 5)) h)
    (omega (arith, bytes (at + 6), bytes (at + 7)))
    (omega (arith, bytes (at + 6), bytes (at + 7)))
    refl)
