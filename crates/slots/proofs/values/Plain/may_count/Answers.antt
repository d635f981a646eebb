-- `may_count` meets its contract: nothing was seen in the blocks so far.
use Rattle.std.proofs.Common.{◌-◌, min, length, sym, ◌∙◌, rules}
use Rattle.slots.proofs.Looks.{may_none, may-later}
use Rattle.slots.proofs.values.Plain.may_count.Goals as goal

pub loop-at-init : goal.loop-at-init
loop-at-init c = (search rules, may_none _ _ _)

pub returns-then-block_may_count : goal.returns-then-block_may_count
returns-then-block_may_count c =
    let s = c.args.self.now in
    sym (may-later _ _ _ _ (min s.end (length s.bytes.now - 1)) (search rules) (sym c.block_may_count.ensures ∙ c.if-block_may_count.true))
