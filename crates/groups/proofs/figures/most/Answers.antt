-- A fold over the candidates.
use Rattle.std.proofs.Common.{◌≡◌, ap, ◌∙◌, rules}
use Rattle.std.specs.List
use Rattle.std.proofs.iter.runs.Made.{chains}
use Rattle.groups.specs.Groups.{or_zeros, most_of}
use Rattle.groups.proofs.Listed.{fold-same}
use Rattle.groups.proofs.figures.most.Goals as goal

pub returns : goal.returns
unfolding most_of
returns c =
    let e : c.fold.result ≡ List.fold or_zeros 0 c.listed.result.now = search (rules, chains) in
    e ∙ ap (List.fold or_zeros 0) c.listed.ensures ∙ fold-same or_zeros 0 _
