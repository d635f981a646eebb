-- `marker::occurs` meets its contract: the bytes are searched window by window.
use Rattle.std.proofs.Common.{rules, ◌∙◌, ap, sym, ◌≡◌, length}
use borrow.Author.Tests.{tests, eqb-true, eqb-false}
use native.Mathlib.Omega.{arith}
use Rattle.std.specs.Slice.Iter.{windows_rest, windows_size, windows_steps}
use Rattle.marker.specs.Marker.{occurs_in}
use Rattle.marker.proofs.Search.{occurs-empty, windows-occur}
use Rattle.marker.proofs.occurs.Goals as goal

pub returns-then-is_empty : goal.returns-then-is_empty
returns-then-is_empty c = c.if-is_empty.true ∙ sym (occurs-empty _ _ (eqb-true _ _ (sym c.is_empty.ensures ∙ c.if-is_empty.true)))

pub returns-else-is_empty : goal.returns-else-is_empty
returns-else-is_empty c =
    let a = c.args in
    let h = c.any.ensures.ran in
    let some : length a.marker.now ≡ 0 → ⊥ = eqb-false _ _ (sym c.is_empty.ensures ∙ c.if-is_empty.false) in
    windows-occur a.marker.now (omega arith) windows_steps windows_rest windows_size _ _ (λ s t e. e.1.0) (λ s b t e. (e.0, e.1.0, e.1.1, e.1.2)) (λ b f k. search (rules, tests)) (λ b f k. search (rules, tests))
    h.0 _ h.3.0 _ h.1 h.2 _ c.windows.ensures.size h.3.1 h.3.2 h.4 h.5
    ∙ ap (occurs_in a.marker.now) c.windows.ensures.rest
