-- `block_may_count` meets its contract: a block without the pair adds nothing.
use Rattle.std.proofs.Common.{◌+◌, ◌-◌, sym, ◌∙◌, arith, rules}
use Rattle.slots.proofs.Looks.{may-block}
use Rattle.slots.proofs.values.Plain.block_may_count.Goals as goal

pub returns-then-not-has_pair : goal.returns-then-not-has_pair
returns-then-not-has_pair c =
    let a = c.args in
    let e = c.new-block.ensures in
    sym (may-block a.self.now.end a.self.now.bv a.self.now.bytes.now _ a.n a.at (a.at + 65 - a.at) _ (omega arith) (search rules) e.text (search rules) (search rules) (sym c.has_pair.ensures ∙ c.if-not-has_pair.true))
