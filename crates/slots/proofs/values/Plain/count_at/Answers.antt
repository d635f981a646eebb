-- `count_at` meets its contract: each byte read is the plain one.
use Rattle.std.proofs.Common.{◌≡◌, ◌+◌, sym, ◌∙◌, arith}
use Rattle.lists.specs.Bytes.{byte_at}
use Rattle.slots.specs.Plain.{text}
use Rattle.lists.proofs.Plain.{plain_at}
use Rattle.slots.proofs.values.Plain.count_at.Goals as goal

pub returns : goal.returns
returns c =
    let a = c.args in
    let ex : c.less.result ≡ byte_at (text a.self.now) a.i = c.less.ensures ∙ sym (plain_at a.self.now.bv a.self.now.bytes.now a.i (omega arith)) in
    let ey : c.less-2.result ≡ byte_at (text a.self.now) (a.i + 1) = c.less-2.ensures ∙ sym (plain_at a.self.now.bv a.self.now.bytes.now (a.i + 1) (omega arith)) in
    rw (← ex, ← ey) c.is_count.ensures
