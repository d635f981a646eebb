-- `extend` meets its contract, a law of `extended` for each arm.
use Rattle.std.proofs.Common.{sym, ◌∙◌}
use Rattle.slots.proofs.Sweeps.{extend-zero, extend-other, extend-run}
use Rattle.slots.proofs.scans.extend.Goals as goal

pub returns-then-w-eq0 : goal.returns-then-w-eq0
returns-then-w-eq0 c = extend-zero _ _ c.if-w-eq0.true

pub returns-then-not-is_offset : goal.returns-then-not-is_offset
returns-then-not-is_offset c = c.no_tail.ensures ∙ extend-other _ _ c.if-w-eq0.false (sym c.is_offset.ensures ∙ c.if-not-is_offset.true)

pub returns : goal.returns
returns c =
    extend-run _ _ (sym c.is_offset.ensures ∙ c.if-not-is_offset.false) _ _ c.carried.ensures.0 c.carried-2.ensures.0
