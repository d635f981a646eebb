-- `rescan` meets its contract: after each sector, the fits and the shifted bytes of those that are done.
use Rattle.summary.proofs.Rescans.{Rescanned}
use Rattle.summary.proofs.rescan.rescan.Given as goal

abbrev pub invariant-loop-done : goal.invariant-loop-done
invariant-loop-done l =
    Rescanned l.number l.stored l.first l.initial.next l.initial.shifted l.done l.next l.shifted
