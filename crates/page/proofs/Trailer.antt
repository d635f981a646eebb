-- Laws of the reserved bytes, in the order of the code's tests. Assumes nothing.
use Prim.Native.Nat.{ℕ}
use mathlib.Core.Path.{◌≡◌, ◌∙◌, sym}
use mathlib.Core.Bool.{false}
use mathlib.Core.List.{List}
use borrow.Author.Tests.{eq-eqb, ne_eqb}
use lib.Dec.{eqb}
use Rattle.lists.specs.Bytes.{byte_at, quad_at}
use Rattle.lists.specs.Counts.{all_are}
use Rattle.page.specs.Trailer.{reserved_zero_of}
use Rattle.page.proofs.Zeros.{four_zero}

module _ (s : List ℕ) where
  pub reserved-third : (byte_at s 0xFF3 ≡ 0 → ⊥) → reserved_zero_of s ≡ false
  unfolding reserved_zero_of all_are
  reserved-third n = rw (ne_eqb 0 (byte_at s 0xFF3) (λ e. n (sym e)))

  pub reserved-others : byte_at s 0xFF3 ≡ 0 → eqb (quad_at s 0xFF8) 0 ≡ reserved_zero_of s
  unfolding reserved_zero_of all_are
  reserved-others e =
      four_zero (byte_at s 0xFF8) (byte_at s 0xFF9) (byte_at s 0xFFA) (byte_at s 0xFFB) ∙ rw (eq-eqb 0 (byte_at s 0xFF3) (sym e))
