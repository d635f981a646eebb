-- `recount` meets its contract: a count below 255 is whole, and any other is counted again.
use mathlib.Core.Path.{◌∙◌}
use Rattle.sector.proofs.Scans.{modal-scanned}
use Rattle.classes.proofs.counts.recount.Goals as goal

pub returns : goal.returns
returns c =
    let a = c.args in
    c.modal_count.ensures.value ∙ modal-scanned a.offset a.stored.now a.step a.room.now c.requires.0 c.requires.1
