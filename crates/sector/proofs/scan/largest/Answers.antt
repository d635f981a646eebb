-- `largest` meets its contract: the greatest of the entries that were seen.
use Rattle.std.proofs.Common.{◌≡◌, length, max, get_or, ap, ◌∙◌, rules}
use Rattle.std.specs.List.{fold}
use Rattle.std.proofs.iter.runs.Made.{chains}
use Rattle.lists.specs.Counts.{greatest}
use Rattle.sector.proofs.Folds.{fold-greatest}
use Rattle.sector.proofs.scan.largest.Goals as goal

pub returns : goal.returns
returns c =
    let hist = c.args.hist in
    let e : c.fold.result ≡ fold max 0 hist = search (rules, chains) in
    let n : length hist ≡ 256 = search rules in
    e ∙ fold-greatest hist ∙ ap (greatest (λ v. get_or hist v 0)) n
