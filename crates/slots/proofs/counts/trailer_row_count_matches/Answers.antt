-- `trailer_row_count_matches` meets its contract: a law of `row_count_matches` for each way out.
use Rattle.std.proofs.Common.{sym, ◌∙◌, arith}
use Rattle.lists.proofs.Plain.{plain-length}
use Rattle.slots.specs.Plain.{text}
use Rattle.slots.proofs.RowCounts.{few-rows, no-directory, directory-start, six-back, four-back, matches-min}
use Rattle.slots.proofs.Looks.{passed_over}
use Rattle.slots.proofs.counts.trailer_row_count_matches.Goals as goal

pub returns-then-n-t : goal.returns-then-n-t
returns-then-n-t c = few-rows _ _ _ _ c.if-n-t.true

pub returns-then-not-may_count : goal.returns-then-not-may_count
returns-then-not-may_count c =
    let p = c.new-plain.result in
    matches-min _ _ _ _ _ _ _ _ c.new-plain.ensures.text c.new-plain.ensures.end
    (passed_over p.end (text p) c.args.n c.args.t (rw (plain-length p.bv p.bytes.now) (sym c.may_count.ensures ∙ c.if-not-may_count.true)))

pub returns-in_default : goal.returns-in_default
returns-in_default c =
    matches-min _ _ _ _ _ _ _ _ c.new-plain.ensures.text c.new-plain.ensures.end (no-directory _ _ _ _ c.if-n-t.false c.sweep.result c.sweep.ensures c.in_default.is)

pub counted_back-requires : goal.counted_back-requires
counted_back-requires c =
    let h = directory-start c.new-plain.result.end (text c.new-plain.result) c.sweep.result c.in-Some.d c.sweep.ensures c.in-Some.is in
    (omega (arith, h.0), omega arith, omega arith)

pub returns-then-counted_back : goal.returns-then-counted_back
returns-then-counted_back c =
    matches-min _ _ _ _ _ _ _ _ c.new-plain.ensures.text c.new-plain.ensures.end
    (c.if-counted_back.true ∙ six-back _ _ _ _ c.if-n-t.false c.sweep.result c.sweep.ensures c.in-Some.d c.in-Some.is (sym c.counted_back.ensures ∙ c.if-counted_back.true))

pub counted_back-requires-else-counted_back : goal.counted_back-requires-else-counted_back
counted_back-requires-else-counted_back c =
    let h = directory-start c.new-plain.result.end (text c.new-plain.result) c.sweep.result c.in-Some.d c.sweep.ensures c.in-Some.is in
    (omega (arith, h.0), omega arith, omega arith)

pub returns-else-counted_back : goal.returns-else-counted_back
returns-else-counted_back c =
    matches-min _ _ _ _ _ _ _ _ c.new-plain.ensures.text c.new-plain.ensures.end
    (four-back _ _ _ _ c.if-n-t.false c.sweep.result c.sweep.ensures c.in-Some.d c.in-Some.is _ (sym c.counted_back.ensures ∙ c.if-counted_back.false) c.counted_back-else-counted_back.ensures)
