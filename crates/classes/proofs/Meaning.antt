-- The engine's table holds the modal counts up to 255, at every length that is a multiple of 16 up to 512. Assumes nothing.
use Prim.Native.Nat.{ℕ, ◌*◌, ◌/◌, ◌%◌, ◌≤◌, ◌<◌}
use mathlib.Core.Path.{◌≡◌, refl}
use mathlib.Core.List.{List}
use native.Mathlib.Omega.{arith}
use lib.ListN.{length}
use Rattle.sector.specs.Fit.{modal_at}
use Rattle.rings.specs.Class.{cap}
use Rattle.classes.specs.Engine.{sixteen_for, twice_for, engine_at}
use Rattle.classes.specs.Steps.{Sixteens}
use Rattle.classes.proofs.Tables.{folded-peak}

module _ (o : ℕ) (l : List ℕ) (s : Sixteens l) (k : ℕ) where
  -- at every step it is the modal count, which stops at 255
  pub table-modal : engine_at o l k ≡ cap (modal_at o l k)
  unfolding engine_at
  table-modal =
      let n : ℕ = length l / 16 in
      let size : 16 * n ≡ length l = omega (arith, s.whole) in
      let short : n ≤ 32 = omega (arith, s.short) in
      folded-peak l o n size short (sixteen_for o l k) (twice_for o l k) _ (k % 32) (omega arith) refl refl _ (omega arith) k (omega arith)

  -- below that it is the modal count itself
  pub table_below : engine_at o l k < 255 → engine_at o l k ≡ modal_at o l k
  table_below h = omega (arith, table-modal)
