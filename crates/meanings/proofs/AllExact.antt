-- Eight exact sectors that vote for one value: it is every byte. Assumes nothing.
use Prim.Native.Nat.{ℕ, ◌+◌, ◌-◌, ◌*◌, ◌/◌, ◌%◌, ◌<◌}
use mathlib.Core.Path.{◌≡◌, refl, sym, ap, ◌∙◌}
use mathlib.Core.Bool.{true}
use mathlib.Core.List.{List}
use native.Mathlib.Nat.{add-zero}
use native.Mathlib.Omega.{arith}
use lib.ListN.{length}
use Rattle.lists.specs.Bytes.{byte_at, AllBytes}
use Rattle.lists.proofs.Many.{many-all}
use Rattle.lists.proofs.Same.{same_at}
use Rattle.answers.specs.Settings.{limit_fits}
use Rattle.summary.specs.Page.{sector_end, part}
use Rattle.summary.proofs.Parts.{part_length, part_at}
use Rattle.votes.specs.Votes.{is_verified}
use Rattle.meanings.specs.Values.{is_exact, exact_value, exact_sectors}
use Rattle.meanings.specs.Sources.{Agreed, Asked}

module _ (shifted : List ℕ) (bv : ℕ) (long : length shifted ≡ 4080) (small : bv < 256)
    (exact : (s : ℕ) → s < 8 → (is_exact shifted s ≡ true) × (exact_value shifted s ≡ bv)) where
  sector-byte : (s i : ℕ) → s < 8 → i < sector_end s - s * 512 → byte_at shifted (s * 512 + i) ≡ bv
  sector-byte s i h k =
      sym (part_at shifted s i k)
      ∙ same_at (part s shifted) i (exact s h).0 (omega (arith, part_length shifted s (omega arith)))
      ∙ part_at shifted s 0 (omega arith)
      ∙ ap (byte_at shifted) (add-zero (s * 512))
      ∙ (exact s h).1

  every_byte : (i : ℕ) → i < length shifted → byte_at shifted i ≡ bv
  every_byte i h =
      let e : i / 512 * 512 + i % 512 ≡ i = omega arith in
      ap (byte_at shifted) (sym e) ∙ sector-byte (i / 512) (i % 512) (omega arith) (omega arith)

  bytes : AllBytes shifted
  bytes = record { at = λ i h. omega (arith, every_byte i h) }

  agree : (s : ℕ) → s < 8 → is_exact shifted s ≡ true → exact_value shifted s ≡ bv
  agree s h x = (exact s h).1

  eight : exact_sectors shifted ≡ 8
  unfolding exact_sectors
  eight = many-all (is_exact shifted) 8 (λ s h. (exact s h).0)

  pub exact-asked : (lim : ℕ) → limit_fits lim ≡ true → Asked lim shifted
  exact-asked lim w = record { long = long; within = w; bytes = bytes }

  pub exact-agreed : (lim t : ℕ) → Agreed lim shifted 0 t bv
  unfolding is_verified
  exact-agreed lim t = record { unverified = record { none = λ v s. refl }; two = omega (arith, eight); all = agree }
