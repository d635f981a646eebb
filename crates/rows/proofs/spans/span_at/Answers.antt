-- `span_at` meets its contract: what `Seeking` says holds from the far end on.
use mathlib.Core.Path.{sym, ◌∙◌}
use Rattle.rows.proofs.FarEnd.{seek-first, seek_found, seek-here, seek-on, seek-skip, seek-end, seek-none}
use Rattle.rows.proofs.spans.span_at.Goals as goal

pub loop-k-init : goal.loop-k-init
loop-k-init c = seek-first _ _ _ _ c.requires.falls

pub returns-then-offset-ne0 : goal.returns-then-offset-ne0
returns-then-offset-ne0 c =
    seek_found _ _ _ _ _ _ _ _ c.loop-k.invariant _ c.loop-k-test.true c.pair_at-v.ensures.0 (sym c.is_kept.ensures ∙ c.if-is_kept.true) c.if-offset-ne0.true

pub loop-k-preserved-then-left-eq0 : goal.loop-k-preserved-then-left-eq0
loop-k-preserved-then-left-eq0 c =
    seek-here _ _ _ _ _ _ _ _ c.loop-k.invariant _ c.loop-k-test.true c.pair_at-v.ensures.0 (sym c.is_kept.ensures ∙ c.if-is_kept.true) c.if-offset-ne0.false c.if-left-eq0.true

pub loop-k-preserved-else-left-eq0 : goal.loop-k-preserved-else-left-eq0
loop-k-preserved-else-left-eq0 c =
    seek-on _ _ _ _ _ _ _ _ c.loop-k.invariant _ c.loop-k-test.true c.pair_at-v.ensures.0 (sym c.is_kept.ensures ∙ c.if-is_kept.true) c.if-offset-ne0.false c.if-left-eq0.false

pub loop-k-preserved : goal.loop-k-preserved
loop-k-preserved c =
    seek-skip _ _ _ _ _ _ _ _ c.loop-k.invariant _ c.loop-k-test.true c.pair_at-v.ensures.0 (sym c.is_kept.ensures ∙ c.if-is_kept.false)

pub returns-then-offset-ne0-2 : goal.returns-then-offset-ne0-2
returns-then-offset-ne0-2 c = seek-end _ _ _ _ _ _ _ _ c.loop-k.invariant c.loop-k-test.false c.if-offset-ne0-2.true

pub returns : goal.returns
returns c = seek-none _ _ _ _ _ _ _ _ c.loop-k.invariant c.loop-k-test.false c.if-offset-ne0-2.false
