-- `add` meets its contract: a full table stays, and another gains the value.
use borrow.Author.Rules.{rules}
use Rattle.lists.proofs.Picks.{pick-le, pick-gt}
use Rattle.answers.specs.Tables.{with_item}
use Rattle.answers.proofs.tables.Table.add.Goals as goal

pub returns-then-self : goal.returns-then-self
unfolding with_item
returns-then-self g c = pick-gt _ _ g.row.N c.args.self.now.len (search rules)

pub returns-else-self : goal.returns-else-self
unfolding with_item
returns-else-self g c = pick-le _ _ g.row.N c.args.self.now.len (search rules)
