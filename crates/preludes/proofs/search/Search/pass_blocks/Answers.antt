-- `pass_blocks` meets its contract: each block has no field that holds n.
use borrow.Author.Rules.{rules}
use mathlib.Core.Path.{sym, ◌∙◌}
use native.Mathlib.Omega.{arith}
use Prim.Native.Nat.{◌+◌, ◌-◌}
use Rattle.preludes.proofs.Passing.{pass-block}
use Rattle.preludes.proofs.search.Search.pass_blocks.Goals as goal

pub loop-at-preserved : goal.loop-at-preserved
loop-at-preserved c =
    let a = c.args in
    pass-block a.self.now.plain.now a.self.now.n a.from a.self.now.end c.loop-at.at c.loop-at.invariant (c.loop-at.at + 65 - c.loop-at.at) (omega arith) (omega arith) (search rules) (search rules)
    (sym c.has_count.ensures ∙ c.if-has_count.false)
