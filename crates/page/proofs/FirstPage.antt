-- Laws of the superblock: what the version's test, the checks, the variant bits and the marker's mark mean. Assumes nothing.
use Prim.Native.Nat.{ℕ, ◌+◌, ◌*◌, ◌/◌, ◌%◌, ◌≤◌, ◌<◌}
use native.Mathlib.Omega.{arith}
use lib.Bits.{bit_and, and_step, and_mask}
use mathlib.Core.Path.{◌≡◌, refl, ap, ◌∙◌}
use mathlib.Core.Bool.{Bool, true, false, not}
use mathlib.Core.Logic.{◌↔◌}
use mathlib.Core.List.{List}
use borrow.Author.Tests.{eqb-true, eq-eqb, ne_eqb}
use lib.Dec.{eqb}
use lib.ListN.{length, get_or}
use Rattle.std.specs.Prelude.{Result, Ok, Err}
use Rattle.lists.specs.Cases.{pick}
use Rattle.lists.proofs.Picks.{never_both}
use Rattle.marker.proofs.Search.{occurs-iff}
use Rattle.answers.specs.declared.kinds.Refusal.{Refusal}
use Rattle.answers.specs.declared.kinds.Refusal.TheVariants.{WrongPageLength, BadMagic}
use Rattle.page.specs.Trailer.{is_page}
use Rattle.page.specs.Superblock.{sa17, is_supported, variant_bits, magic_of, marker, superblock_of, superblock_answer, checked_superblock}
use Rattle.page.specs.declared.superblocks.Superblock.{Superblock}
use Rattle.page.specs.declared.superblocks.FormatVersion.{FormatVersion}

-- a version is supported just where it is 3.201.12
pub supported-iff : (v : FormatVersion) → (is_supported v ≡ true) ↔ (v ≡ sa17)
supported-iff v = (there (eqb v.major 3) refl (eqb v.a 201) refl, λ e. rw e)
  where
    same : v.major ≡ 3 → v.a ≡ 201 → v.b ≡ 12 → v ≡ sa17
    same e f g = rw (← e, ← f, ← g)

    there : (p : Bool) → eqb v.major 3 ≡ p → (q : Bool) → eqb v.a 201 ≡ q → pick p (pick q (eqb v.b 12) false) false ≡ true → v ≡ sa17
    there true e true f g = same (eqb-true _ _ e) (eqb-true _ _ f) (eqb-true _ _ g)
    there true e false f g = absurd (never_both refl g)
    there false e q f g = absurd (never_both refl g)

-- a law for each answer of a checked superblock, its premises in the order of the code's tests
module _ (s : List ℕ) where
  pub checked-length : (length s ≡ 4096 → ⊥) → Err (WrongPageLength (length s)) ≡ checked_superblock s
  unfolding checked_superblock
  checked-length n = rw (ne_eqb (length s) 4096 n)

  module _ (e : length s ≡ 4096) where
    pub checked-magic : (magic_of s ≡ 0xDA7ABA5E → ⊥) → Err (BadMagic (magic_of s)) ≡ checked_superblock s
    unfolding checked_superblock
    checked-magic n = rw (eq-eqb (length s) 4096 e, ne_eqb (magic_of s) 0xDA7ABA5E n)

    pub checked-read : magic_of s ≡ 0xDA7ABA5E → Ok (superblock_of s) ≡ checked_superblock s
    unfolding checked_superblock
    checked-read m = rw (eq-eqb (length s) 4096 e, eq-eqb (magic_of s) 0xDA7ABA5E m)

-- what the checks make of the superblock that is read plainly
judged : Result Superblock Refusal → Result Superblock Refusal
judged (Ok x) = pick (not (eqb x.magic 0xDA7ABA5E)) (Err (BadMagic x.magic)) (Ok x)
judged (Err r) = Err r

module _ (s : List ℕ) where
  checked-judged : judged (superblock_answer s) ≡ checked_superblock s
  unfolding judged superblock_answer checked_superblock superblock_of
  checked-judged = go (is_page s)
    where
      go :
          (p : Bool)
          → judged (pick (not p) (Err (WrongPageLength (length s))) (Ok (superblock_of s)))
          ≡ pick (not p) (Err (WrongPageLength (length s))) (pick (not (eqb (magic_of s) 0xDA7ABA5E)) (Err (BadMagic (magic_of s))) (Ok (superblock_of s)))
      go true = refl
      go false = refl

  pub checked-unread : (r : Refusal) → Err r ≡ superblock_answer s → Err r ≡ checked_superblock s
  unfolding judged
  checked-unread r e = ap judged e ∙ checked-judged

  module _ (x : Superblock) (e : Ok x ≡ superblock_answer s) where
    pub checked-other : (x.magic ≡ 0xDA7ABA5E → ⊥) → Err (BadMagic x.magic) ≡ checked_superblock s
    unfolding judged
    checked-other n = rw (← ap judged e ∙ checked-judged, ne_eqb x.magic 0xDA7ABA5E n)

    pub checked-right : x.magic ≡ 0xDA7ABA5E → Ok x ≡ checked_superblock s
    unfolding judged
    checked-right m = rw (← ap judged e ∙ checked-judged, eq-eqb x.magic 0xDA7ABA5E m)

-- what `Superblock::parse_checked` goes by
pub ruleset checking = (checked-length, checked-magic, checked-read, checked-unread, checked-other, checked-right)

-- a mask keeps a bit where it has one, and drops it where it has none
kept : (a b : ℕ) → b % 2 ≡ 1 → bit_and a b ≡ bit_and (a / 2) (b / 2) * 2 + a % 2
kept a b e = omega (arith, and_step a b)

dropped : (a b : ℕ) → b % 2 ≡ 0 → bit_and a b ≡ bit_and (a / 2) (b / 2) * 2
dropped a b e = omega (arith, and_step a b)

high : (n : ℕ) → n < 32 → bit_and n 30 + n % 2 ≡ n
high n h = omega (arith, dropped n 30 refl, and_mask (n / 2) 4)

binary : (n : ℕ) → n ≡ 8 * (n / 2 / 2 / 2) + 4 * (n / 2 / 2 % 2) + 2 * (n / 2 % 2) + n % 2
binary n = omega arith

sum : (f v w x y b0 b1 b2 b3 e : ℕ) → v ≡ w * 2 → w ≡ x * 2 + b1 → x ≡ y * 2 + b2 → y + b3 ≡ e → f ≡ 8 * e + 4 * b2 + 2 * b1 + b0 → v + b0 + 8 * b3 ≡ f
sum f v w x y b0 b1 b2 b3 e p q r t u = omega arith

-- the flags are their variant bits, and the bits of values 1 and 8
pub variant-bits : (flags : ℕ) → flags < 256 → variant_bits flags + flags % 2 + 8 * (flags / 8 % 2) ≡ flags
variant-bits flags h =
    let eighth : flags / 2 / 2 / 2 ≡ flags / 8 = omega arith in
    rw (← eighth)
    (sum flags _ _ _ _ _ _ _ _ _ (dropped flags 246 refl) (kept (flags / 2) 123 refl) (kept (flags / 2 / 2) 61 refl) (high (flags / 2 / 2 / 2) (omega arith)) (binary flags))

-- the superblock's mark is true just where some place holds all 33 bytes
pub marker-iff :
    (s : List ℕ)
    → ((superblock_of s).sa_marker_present ≡ true)
    ↔ ((at : ℕ) × (at + 33 ≤ length s) × ((k : ℕ) → k < 33 → get_or s (at + k) 0 ≡ get_or marker k 0))
unfolding superblock_of
marker-iff s =
    (λ e. let p = (occurs-iff marker s).0 e in (p.0, p.1.inside, p.1.bytes), λ p. (occurs-iff marker s).1 (p.0, record { inside = p.1; bytes = p.2 }))
