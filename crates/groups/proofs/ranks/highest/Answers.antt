-- A fold over the candidates, from the first.
use Rattle.std.proofs.Common.{◌≡◌, ap₂, ◌∙◌, rules, tests}
use Rattle.std.specs.List
use Rattle.std.proofs.lemmas.Iterator.{YieldsList-from_slice}
use Rattle.std.proofs.lemmas.Iterator.Consumers.{fold_from_yields_List}
use Rattle.groups.specs.Groups.{higher, highest_of}
use Rattle.groups.proofs.Listed.{fold-same}
use Rattle.groups.proofs.ranks.highest.Goals as goal

pub returns : goal.returns
unfolding highest_of
returns c =
    let e : c.fold.result ≡ List.fold higher c.first.result c.listed.result.now =
    fold_from_yields_List _ higher _ _ c.fold.ensures.ran (YieldsList-from_slice c.listed.result.now cc) (λ a x b q k. search (rules, tests)) in
    e ∙ ap₂ (List.fold higher) c.first.ensures c.listed.ensures ∙ fold-same higher _ _
