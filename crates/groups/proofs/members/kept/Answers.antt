-- A fold over the members.
use Rattle.std.proofs.Common.{◌≡◌, ap, ap₂, ◌∙◌, rules, tests}
use Rattle.std.specs.List
use Rattle.std.proofs.lemmas.Iterator.{YieldsList-from_slice}
use Rattle.std.proofs.lemmas.Iterator.Consumers.{YieldsList-from_filter, fold_from_yields_List}
use Rattle.votes.specs.Votes.{with_candidate, tabled}
use Rattle.groups.specs.Groups.{belongs, kept_of}
use Rattle.groups.proofs.Listed.{fold-same, keep-same}
use Rattle.groups.proofs.members.kept.Goals as goal

pub returns : goal.returns
unfolding kept_of tabled
returns c =
    let g = belongs c.args.g in
    let e : c.fold.result ≡ List.fold with_candidate c.none.result (List.filter g c.listed.result.now) =
    fold_from_yields_List _ with_candidate _ _ c.fold.ensures.ran
    (YieldsList-from_filter _ g (YieldsList-from_slice c.listed.result.now cc) c.filter.ensures.closure (λ x r q k. search (rules, tests)))
    (λ a x b q k. search (rules, tests)) in
    e
    ∙ ap₂ (λ t l. List.fold with_candidate t (List.filter g l)) c.none.ensures c.listed.ensures
    ∙ ap (List.fold with_candidate _) (keep-same g _)
    ∙ fold-same with_candidate _ _
