-- `block_on_line` meets its contract: `on` says whether all bytes that were seen are on the line, and `next` is its byte there.
use Rattle.std.proofs.Common.{◌≡◌}
use Rattle.quick.specs.Line.{line_at}
use Rattle.quick.proofs.Lines.{Seen}
use Rattle.quick.proofs.line.block_on_line.Given as goal

abbrev pub invariant-loop-b : goal.invariant-loop-b
invariant-loop-b l = (l.next ≡ line_at l.first l.step l.b-index) × Seen l.first l.step l.block l.b-index l.on
