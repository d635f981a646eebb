-- `page::integrity::check_written` meets its contract: what is behind the 4,092 bytes is left out. Assumes nothing.
use Rattle.std.proofs.Common.{arith}
use lib.ListN.{length-take}
use Rattle.page.proofs.integrity.check_written.Goals as goal

pub slice_bounds-crc32-end : goal.slice_bounds-crc32-end
slice_bounds-crc32-end c = simp length-take (omega arith)
