-- `fit_of` meets its contract: the table of the modal counts gives the fit.
use Rattle.std.proofs.Common.{ℕ, List, length, ap, ◌∙◌}
use Rattle.sector.specs.Fit.{table_fit}
use Rattle.sector.proofs.StepSearch.{table-fit}
use Rattle.sector.proofs.scan.fit_of.Goals as goal

pub returns : goal.returns
returns c =
    let a = c.args in
    c.table_fit.ensures
    ∙ ap (λ (counts : List ℕ). table_fit counts (length a.stored.now)) c.modal_counts-counts.ensures
    ∙ table-fit a.offset a.stored.now
