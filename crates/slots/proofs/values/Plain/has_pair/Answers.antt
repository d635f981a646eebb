-- `has_pair` meets its contract: after i turns it has seen the pairs at 0, .., i - 1.
use Rattle.std.proofs.Common.{◌-◌, false, length, sym, ◌∙◌, arith}
use Rattle.slots.specs.Plain.{text}
use Rattle.lists.proofs.Plain.{plain_at}
use Rattle.slots.proofs.RowCounts.{pair-none, pair-more, pair-to, next-at}
use Rattle.slots.proofs.values.Plain.has_pair.Goals as goal

pub returns-then-length-eq0 : goal.returns-then-length-eq0
returns-then-length-eq0 c = pair-to _ _ _ 0 _ false (omega arith) (pair-none _ _ _)

pub loop-i-init : goal.loop-i-init
loop-i-init c = pair-none _ _ _

pub loop-i-preserved : goal.loop-i-preserved
loop-i-preserved c =
    let a = c.args in
    pair-more a.n 0 (text a.self.now) c.loop-i.i c.less.result c.less-in-loop-i.result c.is_count-here.result c.loop-i.seen c.loop-i.invariant
    (c.less.ensures ∙ sym (plain_at a.self.now.bv a.self.now.bytes.now c.loop-i.i (omega arith)))
    (next-at a.self.now.bv a.self.now.bytes.now (length a.self.now.bytes.now - 1) c.loop-i.i _ (omega arith) (omega arith) c.less-in-loop-i.ensures) c.is_count-here.ensures
