-- `lumeviqo_scan` meets its contract: too short a buffer stays, else the scan is told.
use native.Mathlib.Omega.{arith}
use Rattle.lumeviqo.proofs.Calls.{scan-short, scan-made}
use Rattle.lumeviqo.proofs.summaries.lumeviqo_scan.Goals as goal

pub returns-then-answer-lt-SCAN_SIZE : goal.returns-then-answer-lt-SCAN_SIZE
returns-then-answer-lt-SCAN_SIZE c =
    scan-short (omega arith)

pub returns : goal.returns
returns c =
    scan-made _ (omega arith) c.scan_page-found.ensures.value c.scan_page-found.ensures.shifted_after c.write.ensures
