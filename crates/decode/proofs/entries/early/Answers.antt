-- `early` meets its contract: the zeros of a page are copied, whose length is that of `out`.
use Rattle.std.proofs.Common.{◌∙◌, rules}
use Rattle.numbers.proofs.Copies.{copied-same}
use Rattle.decode.proofs.EntryCases.{entering}
use Rattle.decode.proofs.entries.early.Goals as goal

pub returns-then-zeros-clause-written : goal.returns-then-zeros-clause-written
returns-then-zeros-clause-written c = rw c.if-zeros.true (c.copy.ensures ∙ copied-same _ _ (search (rules, entering)))
