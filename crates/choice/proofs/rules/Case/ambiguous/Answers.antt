-- The highest in rank, with its warning and those it was preferred to.
use borrow.Author.Tests.{not-false}
use Rattle.choice.proofs.ChoiceCases.{ambiguous-lenient}
use Rattle.choice.proofs.rules.Case.ambiguous.Goals as goal

pub returns : goal.returns
returns c = rw c.bvs-2.ensures (ambiguous-lenient _ _ _ c.highest-c.result _ _ c.taken.result c.taken.ensures c.highest-c.ensures c.kept.ensures (not-false _ c.if-not-self.false))
