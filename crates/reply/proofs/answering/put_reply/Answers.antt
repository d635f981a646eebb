-- `put_reply` meets its contract: the front of the buffer is the report.
use Rattle.std.proofs.Common.{ℕ, List, length, ap, ◌∙◌, arith, length-take}
use Rattle.lists.specs.Pieces.{over}
use Rattle.reply.specs.Report.{line_of}
use Rattle.reply.proofs.Reports.{report-within, report-taken}
use Rattle.reply.proofs.answering.put_reply.Goals as goal

pub slice_bounds-report-end : goal.slice_bounds-report-end
slice_bounds-report-end c =
    let room = c.report_room-report in
    omega (arith, room.ensures, report-within c.args.found c.args.number _ room.ensures _ c.put_report-n.ensures.value)

pub slice_bounds-put_line-end : goal.slice_bounds-put_line-end
slice_bounds-put_line-end c =
    let p = c.put_report-n in
    let room = c.report_room-report in
    omega (arith, length-take p.result p.new.bytes, room.ensures, report-within c.args.found c.args.number _ room.ensures _ p.ensures.value)

pub returns : goal.returns
returns c =
    let a = c.args in
    let p = c.put_report-n in
    let taken = report-taken a.found a.number _ c.report_room-report.ensures _ p.ensures.value p.new.bytes p.ensures.bytes_after in
    let l = c.put_line in
    record {
      value = l.ensures.value ∙ ap (λ (x : List ℕ). length (line_of x)) taken;
      out_after = l.ensures.out_after ∙ ap (λ (x : List ℕ). over a.out.now 0 (line_of x)) taken;
    }
