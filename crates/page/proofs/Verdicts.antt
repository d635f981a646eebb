-- Laws of integrity: of a page that was written, a law for each answer, its premises in the order of the code's tests. Assumes nothing.
use Prim.Native.Nat.{ℕ}
use mathlib.Core.Path.{◌≡◌, refl}
use mathlib.Core.Bool.{Bool, true, false}
use mathlib.Core.List.{List}
use borrow.Author.Tests.{eq-eqb, ne_eqb}
use lib.Dec.{eqb}
use lib.ListN.{length}
use Rattle.std.specs.Prelude.{Some, None}
use Rattle.lists.specs.Cases.{pick}
use Rattle.answers.specs.declared.kinds.Refusal.TheVariants.{BadCrc, BadTrailer}
use Rattle.page.specs.Trailer.{stored_crc, reserved_zero_of}
use Rattle.page.specs.Integrity.{is_unallocated, computed_crc, trailer_holds, written_integrity, integrity_of}

module _ (number : ℕ) (s : List ℕ) where
  pub on-written : is_unallocated s ≡ false → integrity_of number s ≡ written_integrity number s
  unfolding integrity_of
  on-written u = rw u

  module _ (e : length s ≡ 4096) where
    pub on-crc : (stored_crc s ≡ computed_crc s → ⊥) → Some (BadCrc number (stored_crc s) (computed_crc s)) ≡ written_integrity number s
    unfolding written_integrity
    on-crc n = rw (eq-eqb (length s) 4096 e, ne_eqb (stored_crc s) (computed_crc s) n)

    module _ (k : stored_crc s ≡ computed_crc s) where
      pub holding : trailer_holds number s ≡ true → None ≡ written_integrity number s
      unfolding written_integrity
      holding h = rw (eq-eqb (length s) 4096 e, eq-eqb (stored_crc s) (computed_crc s) k, h)

      pub on-first : number ≡ 0 → None ≡ written_integrity number s
      on-first z = holding (rw (eq-eqb number 0 z))

      -- on page 0 too
      pub on-good : reserved_zero_of s ≡ true → None ≡ written_integrity number s
      on-good h = holding (go (eqb number 0))
        where
          go : (b : Bool) → pick b true (reserved_zero_of s) ≡ true
          go true = refl
          go false = h

      pub on-trailer : (number ≡ 0 → ⊥) → reserved_zero_of s ≡ false → Some (BadTrailer number) ≡ written_integrity number s
      unfolding written_integrity
      on-trailer z r = rw (eq-eqb (length s) 4096 e, eq-eqb (stored_crc s) (computed_crc s) k, ne_eqb number 0 z, r)

-- what `check_written` goes by
pub ruleset standing = (on-crc, on-first, on-good)
