-- `scan` meets its contract: a plain page is scanned at bv = 0.
use Rattle.std.proofs.Common.{arith}
use Rattle.directory.proofs.Decisions.{scanned-plain}
use Rattle.directory.proofs.verdicts.scan.Goals as goal

pub returns : goal.returns
returns c = scanned-plain _ _ (λ i. omega (arith, c.type_inv.plain i)) _ c.scanned_directory.ensures
