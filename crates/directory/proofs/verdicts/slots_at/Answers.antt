-- `slots_at` meets its contract: the pairs of the directory's part of the page.
use Rattle.std.proofs.Common.{◌≡◌, ℕ, ◌+◌, ◌-◌, ◌*◌, ◌/◌, List, map, length, take, drop, ap, ◌∙◌, arith, length-drop, length-take-le}
use Rattle.std.specs.Simd.{first_chunks}
use Rattle.slots.specs.Slots.{slot_value}
use Rattle.slots.proofs.Slices.{slots-part, slots-long}
use Rattle.directory.proofs.verdicts.slots_at.Goals as goal

pub returns-clause-slots : goal.returns-clause-slots
returns-clause-slots c h =
    let a = c.args in
    let m : ℕ = a.start + 2 * a.count - a.start in
    let part : List ℕ = take m (drop a.start a.plain.now) in
    let long : length part ≡ m = length-take-le m (drop a.start a.plain.now) (omega (arith, length-drop a.start a.plain.now)) in
    let half : length part / 2 ≡ a.count = omega arith in
    ap (map slot_value) (c.pairs_in.ensures ∙ ap (λ (k : ℕ). first_chunks 2 k part) half) ∙ slots-part a.plain.now a.start a.count m h (omega arith)

pub returns-clause-long : goal.returns-clause-long
returns-clause-long c h =
    let a = c.args in
    let m : ℕ = a.start + 2 * a.count - a.start in
    let part : List ℕ = take m (drop a.start a.plain.now) in
    let long : length part ≡ m = length-take-le m (drop a.start a.plain.now) (omega (arith, length-drop a.start a.plain.now)) in
    let half : length part / 2 ≡ a.count = omega arith in
    ap length c.pairs_in.ensures ∙ slots-long _ part ∙ half
