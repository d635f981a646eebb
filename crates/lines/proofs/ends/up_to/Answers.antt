-- `up_to` meets its contract: the place of the first newline, or all characters.
use Rattle.std.proofs.Common.{rules, ◌∙◌}
use borrow.Author.Tests.{tests}
use lib.Dec.{eqb}
use Rattle.std.proofs.lemmas.Iterator.{YieldsList-from_slice}
use Rattle.std.proofs.lemmas.Iterator.Search.{position_from_yields_List}
use Rattle.lines.proofs.Newlines.{up-found}
use Rattle.lines.proofs.ends.up_to.Goals as goal

pub returns : goal.returns
returns c =
    let l = c.args.chars.now in
    c.unwrap_or.ensures ∙ up-found l _ (position_from_yields_List (λ c. eqb c 10) _ _ c.position.result c.position.ensures.ran (YieldsList-from_slice l c.iter.ensures.rest) (λ x b q k. search (rules, tests)))
