-- `count_four` meets its contract: the four peaks go to the places of their steps.
use Prim.Native.Nat.{ℕ}
use mathlib.Core.Path.{ap, ap₂, ◌∙◌}
use mathlib.Core.List.{List}
use native.Mathlib.Omega.{arith}
use Rattle.rings.specs.Peak.{peak_at}
use Rattle.rings.specs.declared.quads.Quad.{Quad}
use Rattle.rings.proofs.PeakSearch.{peaks-room}
use Rattle.classes.specs.Steps.{step_peak}
use Rattle.classes.proofs.Steps.{fills-four}
use Rattle.classes.proofs.counts.count_four.Goals as goal

pub returns : goal.returns
returns c =
    let a = c.args in
    let p = c.requires in
    let t : List ℕ = a.eight.now in
    let s : ℕ = a.s in
    let e = c.peaks-peaks.ensures ∙ peaks-room t s p.1 in
    fills-four (step_peak t) a.counts.now s _ _ _ _ p.0 p.2
    (ap (λ (q : Quad). q.a) e ∙ ap₂ (peak_at t) (omega (arith, p.0)) (omega (arith, p.0)))
    (ap (λ (q : Quad). q.b) e ∙ ap₂ (peak_at t) (omega (arith, p.0)) (omega (arith, p.0)))
    (ap (λ (q : Quad). q.c) e ∙ ap₂ (peak_at t) (omega (arith, p.0)) (omega (arith, p.0)))
    (ap (λ (q : Quad). q.d) e ∙ ap₂ (peak_at t) (omega (arith, p.0)) (omega (arith, p.0)))
