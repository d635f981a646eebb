-- `histogram` meets its contract: the table tallies the bytes that were seen.
use Rattle.std.proofs.Common.{◌≡◌, ℕ, ◌+◌, ◌≤◌, [], ◌∷◌, ◌++◌, length, get_or, take, set, sym, refl, ap, ◌∙◌, subst, add-one, arith, length-set, length-take-le, take-suc, rules}
use Rattle.lists.specs.Counts.{Tallies}
use Rattle.lists.proofs.Count.{tallies-none, tallies-more, tallies-le}
use Rattle.sector.proofs.scan.histogram.Goals as goal

pub loop-x-init : goal.loop-x-init
loop-x-init c = (refl, tallies-none 256)

pub overflow_add-hist : goal.overflow_add-hist
overflow_add-hist c =
    let bytes = c.args.bytes.now in
    let l = c.loop-x in
    let small : get_or l.hist c.from.result 0 ≤ length (take l.x-index bytes) =
    tallies-le 256 l.hist _ l.invariant.1 c.from.result (search rules) in
    omega (arith, length-take-le l.x-index bytes (search rules))

pub loop-x-preserved : goal.loop-x-preserved
loop-x-preserved c =
    let bytes = c.args.bytes.now in
    let l = c.loop-x in
    let x = c.from.result in
    let e : take (l.x-index + 1) bytes ≡ take l.x-index bytes ++ (x ∷ []) =
    ap (λ (n : ℕ). take n bytes) (add-one l.x-index)
    ∙ take-suc bytes l.x-index 0 (search rules)
    ∙ ap (λ (y : ℕ). take l.x-index bytes ++ (y ∷ [])) (sym c.from.ensures) in
    (length-set l.hist x _ ∙ l.invariant.0, subst (Tallies 256 (set l.hist x (get_or l.hist x 0 + 1))) (sym e) (tallies-more 256 l.hist _ l.invariant.1 x (search rules)))
