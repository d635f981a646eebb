-- `put_low` meets its contract: the first bytes of eight, the least first, are the last of the number, and zeros are those before them.
use Rattle.std.proofs.Common.{◌≡◌, ◌∙◌, ◌+◌, ◌-◌, ◌++◌, List, ℕ, ap, ap₂, length, take, replicate, rules, w64}
use Rattle.std.specs.Int.{to_le_bytes}
use native.Mathlib.Omega.{arith}
use lib.ListN.{length-take, length-replicate}
use Rattle.lists.specs.Pieces.{over}
use Rattle.numbers.proofs.Widths.{low_little, little-long}
use Rattle.numbers.proofs.Stored.{wrote-not, wrote-over}
use Rattle.numbers.proofs.Copies.{over-parts}
use Rattle.numbers.proofs.puts.put_low.Goals as goal

pub returns-in_default : goal.returns-in_default
returns-in_default g c = wrote-not (omega (arith, little-long g.row.N c.args.n, c.in_default.ensures))

pub returns : goal.returns
returns g c =
    let a = c.args in
    let k = c.min-k.result in
    let d = c.in-Some.end - (a.at + k) in
    let e = c.in-Some.ensures in
    let m = c.min-k.ensures in
    let low : c.copy_from_slice.new.self ≡ take k (to_le_bytes w64 a.n) = c.copy_from_slice.ensures.after ∙ ap (take k) c.to_le_bytes.ensures in
    let rest : c.fill.new.self ≡ replicate d 0 = search rules in
    let long : length c.copy_from_slice.new.self ≡ k = ap length low ∙ length-take k (to_le_bytes w64 a.n) ∙ omega arith in
    let behind : length c.fill.new.self ≡ d = ap length rest ∙ length-replicate {A = ℕ} d 0 in
    wrote-over (omega (arith, little-long g.row.N a.n))
    (over-parts a.out.now _ _ a.at (a.at + k) _ _ (omega (arith, long)) (omega (arith, behind)) (omega (arith, long)) (omega (arith, behind))
    ∙ ap (over a.out.now a.at) (ap₂ (λ (x y : List ℕ). x ++ y) low rest ∙ low_little k g.row.N d a.n (search rules) (omega arith) (omega arith) (λ h. omega arith)))
    (omega (arith, little-long g.row.N a.n))
