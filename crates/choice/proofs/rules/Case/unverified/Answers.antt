-- What is taken, with its warning.
use borrow.Author.Tests.{not-false}
use Rattle.choice.proofs.ChoiceCases.{unverified-lenient}
use Rattle.choice.proofs.rules.Case.unverified.Goals as goal

pub returns : goal.returns
returns c = unverified-lenient _ _ _ _ c.taken.result c.taken.ensures (not-false _ c.if-not-self.false)
