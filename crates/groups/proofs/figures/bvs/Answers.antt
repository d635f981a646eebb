-- A fold over the candidates.
use Rattle.std.proofs.Common.{◌≡◌, ap₂, ◌∙◌, rules, tests}
use Rattle.std.specs.List
use Rattle.std.proofs.lemmas.Iterator.{YieldsList-from_slice}
use Rattle.std.proofs.lemmas.Iterator.Consumers.{fold_from_yields_List}
use Rattle.groups.specs.Groups.{and_bv, bvs_of}
use Rattle.groups.proofs.Listed.{fold-same}
use Rattle.groups.proofs.figures.bvs.Goals as goal

pub returns : goal.returns
unfolding bvs_of
returns c =
    let e : c.fold.result ≡ List.fold and_bv c.none.result c.listed.result.now =
    fold_from_yields_List _ and_bv _ _ c.fold.ensures.ran (YieldsList-from_slice c.listed.result.now cc) (λ a x b q k. search (rules, tests)) in
    e ∙ ap₂ (List.fold and_bv) c.none.ensures c.listed.ensures ∙ fold-same and_bv _ _
