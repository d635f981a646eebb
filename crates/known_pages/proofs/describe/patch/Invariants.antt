-- Each turn leaves fewer digits.
use Rattle.std.proofs.Common.{length}
use Rattle.known_pages.proofs.describe.patch.Given as goal

abbrev pub decreases-loop-first : goal.decreases-loop-first
decreases-loop-first l = length l.rest
