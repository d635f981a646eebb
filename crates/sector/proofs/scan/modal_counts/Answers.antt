-- `modal_counts` meets its contract: the table is filled with the modal counts of the steps that were tried.
use Rattle.std.proofs.Common.{refl, ◌∙◌, arith}
use Rattle.lists.proofs.Filled.{filled_none, filled_more}
use Rattle.sector.proofs.Scans.{modal-scanned}
use Rattle.sector.proofs.scan.modal_counts.Goals as goal

pub loop-step-init : goal.loop-step-init
loop-step-init c = (c.requires.1, filled_none _ _ _ refl)

pub loop-step-preserved : goal.loop-step-preserved
loop-step-preserved c =
    let a = c.args in
    let small = c.requires.0 in
    let l = c.loop-step in
    let p = c.modal_count in (
      p.auto.room ∙ l.invariant.0,
      filled_more _ _ _ l.step p.result l.invariant.1 (omega arith)
          (p.ensures.value ∙ modal-scanned a.offset a.stored.now l.step l.room small l.invariant.0),
    )
