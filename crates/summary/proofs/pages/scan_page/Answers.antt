-- `scan_page` meets its contract: a refusal is that of the lengths, and all eight sectors are scanned where both are right.
use Rattle.std.proofs.Common.{length, Ok, Some, None, ap, ◌∙◌}
use Rattle.std.proofs.lemmas.Result.{err_from_is_err_and}
use Rattle.summary.proofs.Outcomes.{checked-sizes, scan-answer, scan-buffer}
use Rattle.summary.proofs.Rescans.{refitted-all, reshifted-all}
use Rattle.summary.proofs.pages.scan_page.Goals as goal

pub returns-in_err-check_sizes-clause-value : goal.returns-in_err-check_sizes-clause-value
returns-in_err-check_sizes-clause-value c =
    let a = c.args in
    let x = c.in_err-check_sizes in
    let p = err_from_is_err_and c.from_residual.result c.from_residual.ensures.1 in
    rw (p.1, p.2) (scan-answer a.number a.stored.now a.shifted.now (Some x.field-0.0) x.ensures)

pub returns-in_err-check_sizes-clause-shifted_after : goal.returns-in_err-check_sizes-clause-shifted_after
returns-in_err-check_sizes-clause-shifted_after c =
    let a = c.args in
    let x = c.in_err-check_sizes in
    scan-buffer a.number a.stored.now a.shifted.now (Some x.field-0.0) x.ensures

pub returns-clause-value : goal.returns-clause-value
returns-clause-value c =
    let a = c.args in
    let blank = c.blanks in
    ap Ok (c.rescan.ensures.value ∙ refitted-all a.number a.stored.now blank.result (ap length blank.ensures))
    ∙ scan-answer a.number a.stored.now a.shifted.now None c.in_ok-check_sizes.ensures

pub returns-clause-shifted_after : goal.returns-clause-shifted_after
returns-clause-shifted_after c =
    let a = c.args in
    let w = c.in_ok-check_sizes.ensures in
    let sizes = checked-sizes (length a.stored.now) (length a.shifted.now) w in
    c.rescan.ensures.shifted_after
    ∙ reshifted-all a.number a.stored.now sizes.0 a.shifted.now sizes.1
    ∙ scan-buffer a.number a.stored.now a.shifted.now None w
