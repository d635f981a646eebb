-- `put_report` meets its contract: a law for each way out.
use borrow.Author.Rules.{rules}
use Rattle.reply.proofs.Reports.{report-short, report-accepted, report-refused}
use Rattle.reply.proofs.writing.put_report.Goals as goal

pub returns-then-bytes-lt-REPORT_MOST : goal.returns-then-bytes-lt-REPORT_MOST
returns-then-bytes-lt-REPORT_MOST c =
    let short = report-short c.args.found c.args.number c.args.bytes.now (search rules) in
    record { value = short.0; bytes_after = short.1 }

pub returns-in-Ok : goal.returns-in-Ok
returns-in-Ok c =
    let yes = report-accepted c.args.number c.args.bytes.now c.in-Ok.d (search rules) c.put_head.ensures c.put_accepted.ensures in
    rw c.in-Ok.is (record { value = yes.0; bytes_after = yes.1 })

pub returns-in-Err : goal.returns-in-Err
returns-in-Err c =
    let no = report-refused c.args.number c.args.bytes.now c.in-Err.refused c.number.result (search rules) c.number.ensures c.put_head-in-Err.ensures in
    rw c.in-Err.is (record { value = no.0; bytes_after = no.1 })
