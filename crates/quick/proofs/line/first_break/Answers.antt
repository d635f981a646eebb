-- `first_break` meets its contract: past blocks that are on the line, all bytes before place i are.
use Rattle.std.proofs.Common.{◌≡◌, ℕ, length, sym, ap, ◌∙◌, subst, arith, rules}
use Rattle.lists.specs.Bytes.{byte_at}
use Rattle.quick.specs.Line.{line_at, off_at, OnLine, break_at}
use Rattle.quick.proofs.Lines.{off-here, off-none}
use Rattle.quick.proofs.line.first_break.Goals as goal

pub returns-then-stored-i : goal.returns-then-stored-i
unfolding break_at
returns-then-stored-i c =
    let a = c.args in
    let l = c.loop-i in
    let step = c.first_step-step in
    let bytes = a.stored.now in
    let ne : byte_at bytes l.i ≡ line_at (byte_at bytes 0) step.result l.i → ⊥ = λ e. c.if-stored-i.true (e ∙ sym c.line_at.ensures) in
    sym (off-here (byte_at bytes 0) step.result bytes l.i l.invariant (search rules) ne)
    ∙ ap (λ (k : ℕ). off_at (byte_at bytes 0) k bytes) step.ensures

pub returns : goal.returns
unfolding break_at
returns c =
    let bytes = c.args.stored.now in
    let l = c.loop-i in
    let step = c.first_step-step in
    let e : l.i ≡ length bytes = omega (arith, l.invariant.within) in
    sym (off-none (byte_at bytes 0) step.result bytes (subst (OnLine (byte_at bytes 0) step.result bytes) e l.invariant))
    ∙ ap (λ (k : ℕ). off_at (byte_at bytes 0) k bytes) step.ensures
