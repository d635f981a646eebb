-- The engine's table, from tables that hold what it counts. Assumes nothing.
use Prim.Native.Nat.{ℕ, ◌*◌, ◌%◌}
use mathlib.Core.Path.{◌≡◌, ap, ◌∙◌}
use mathlib.Core.List.{List}
use Rattle.lists.specs.Pieces.{each}
use Rattle.rings.specs.Table.{tallied_at, doubled_at}
use Rattle.classes.specs.Engine.{sixteen_for, twice_for, engine_at}
use Rattle.classes.specs.Steps.{folded_for, step_peak}

-- sixteen rings of a stride, and eight of them twice, give it at every step of that stride
pub engine-from :
    (o : ℕ) (l : List ℕ) (k x m : ℕ) (sixteen twice : List ℕ)
    → sixteen ≡ each (tallied_at l o x) 4096
    → twice ≡ each (doubled_at sixteen) 4096
    → x ≡ k % 16 * 16
    → m ≡ k % 32
    → step_peak (folded_for sixteen twice m) k ≡ engine_at o l k
unfolding engine_at
engine-from o l k x m sixteen twice counted laid stride turn =
    let a : sixteen ≡ sixteen_for o l k = counted ∙ ap (λ (y : ℕ). each (tallied_at l o y) 4096) stride in
    let b : twice ≡ twice_for o l k = laid ∙ ap (λ (t : List ℕ). each (doubled_at t) 4096) a in
    λ i. step_peak (folded_for (a i) (b i) (turn i)) k
