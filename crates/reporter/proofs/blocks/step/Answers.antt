-- `step` meets its contract: the laws of `Stepping`, one for each way.
use Rattle.std.proofs.Common.{◌<◌, length, length-take, refl, sym, ◌∙◌, arith, rules}
use Rattle.lines.proofs.Stepping.{stepping-none, stepping-here, stepping-begun, stepped-full, stepped-keep, here-within, begun-within}
use Rattle.reply.specs.Report.{reply_most}
use Rattle.reply.proofs.Replies.{reply-bounded}
use Rattle.reporter.proofs.blocks.step.Goals as goal

pub loop-at-init : goal.loop-at-init
loop-at-init c = stepping-none _ reply_most _ _ _ _ _ (search rules)

pub returns-then-out-waiting-lt-REPLY_MOST : goal.returns-then-out-waiting-lt-REPLY_MOST
returns-then-out-waiting-lt-REPLY_MOST c = stepped-full _ _ _ _ _ _ _ _ _ _ _ _ c.loop-at.invariant (search rules)

pub returns-in-Unfinished : goal.returns-in-Unfinished
returns-in-Unfinished c =
    let n = c.next_line in
    stepped-keep _ _ _ _ _ _ _ _ _ _ _ _ c.loop-at.invariant reply-bounded (search rules) (search rules) n.new.line n.ensures.line_after
    c.in-Unfinished.kept (sym c.in-Unfinished.is ∙ n.ensures.value) _ refl

-- a line in the block
pub slice_bounds-answer-count : goal.slice_bounds-answer-count
slice_bounds-answer-count c =
    let w = here-within _ _ _ _ _ (sym c.in-Here.is ∙ c.next_line.ensures.value) in omega (arith, w.0, w.1)

pub slice_bounds-answer-start : goal.slice_bounds-answer-start
slice_bounds-answer-start c =
    let w = here-within _ _ _ _ _ (sym c.in-Here.is ∙ c.next_line.ensures.value) in omega (arith, w.0, w.1)

pub slice_bounds-answer-end : goal.slice_bounds-answer-end
slice_bounds-answer-end c =
    let w = here-within _ _ _ _ _ (sym c.in-Here.is ∙ c.next_line.ensures.value) in omega (arith, w.0, w.1)

pub overflow_add-at : goal.overflow_add-at
overflow_add-at c =
    let h : c.in-Here.end < length c.args.block.now = (here-within _ _ _ _ _ (sym c.in-Here.is ∙ c.next_line.ensures.value)).1 in search rules

pub loop-at-smaller-in-Here : goal.loop-at-smaller-in-Here
loop-at-smaller-in-Here c =
    let w = here-within _ _ _ _ _ (sym c.in-Here.is ∙ c.next_line.ensures.value) in omega (arith, w.0, w.1)

pub loop-at-preserved-in-Here : goal.loop-at-preserved-in-Here
loop-at-preserved-in-Here c =
    let n = c.next_line in
    let a = c.answer-waiting in
    stepping-here _ _ _ _ _ _ _ _ _ _ _ _ c.loop-at.invariant reply-bounded (search rules) (search rules) n.new.line n.ensures.line_after (search rules) _ _ a.auto.out
    c.in-Here.end (sym c.in-Here.is ∙ n.ensures.value) a.ensures

-- a line from the buffer
pub slice_bounds-answer-end-in-Begun : goal.slice_bounds-answer-end-in-Begun
slice_bounds-answer-end-in-Begun c =
    let n = c.next_line in
    let w = begun-within _ _ _ _ c.loop-at.invariant.held _ n.ensures.line_after _ _ (sym c.in-Begun.is ∙ n.ensures.value) in omega (arith, w.2)

pub slice_bounds-answer-end-in-Begun-2 : goal.slice_bounds-answer-end-in-Begun-2
slice_bounds-answer-end-in-Begun-2 c =
    let n = c.next_line in
    let w = begun-within _ _ _ _ c.loop-at.invariant.held _ n.ensures.line_after _ _ (sym c.in-Begun.is ∙ n.ensures.value) in
    omega (arith, w.2, length-take c.in-Begun.kept n.new.line)

pub overflow_add-at-in-Begun : goal.overflow_add-at-in-Begun
overflow_add-at-in-Begun c =
    let n = c.next_line in
    let h : c.in-Begun.end < length c.args.block.now = (begun-within _ _ _ _ c.loop-at.invariant.held _ n.ensures.line_after _ _ (sym c.in-Begun.is ∙ n.ensures.value)).1 in
    search rules

pub loop-at-smaller : goal.loop-at-smaller
loop-at-smaller c =
    let n = c.next_line in
    let w = begun-within _ _ _ _ c.loop-at.invariant.held _ n.ensures.line_after _ _ (sym c.in-Begun.is ∙ n.ensures.value) in omega (arith, w.0, w.1)

pub loop-at-preserved : goal.loop-at-preserved
loop-at-preserved c =
    let n = c.next_line in
    let a = c.answer-waiting-in-Begun in
    stepping-begun _ _ _ _ _ _ _ _ _ _ _ _ c.loop-at.invariant reply-bounded (search rules) (search rules) n.new.line n.ensures.line_after (search rules) _ _ a.auto.out
    c.in-Begun.end c.in-Begun.kept (sym c.in-Begun.is ∙ n.ensures.value) a.ensures
