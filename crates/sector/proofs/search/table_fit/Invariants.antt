-- `table_fit` meets its contract: after each step, what leads, what comes second, and how many lead.
use Rattle.std.proofs.Common.{get_or}
use Rattle.sector.proofs.Leads.{Leads}
use Rattle.sector.proofs.Ties.{Tied}
use Rattle.sector.proofs.search.table_fit.Given as goal

abbrev pub invariant-loop-step : goal.invariant-loop-step
invariant-loop-step l =
    Leads (λ k. get_or l.counts k 0) l.step l.best_step l.best l.runner_up × Tied (λ k. get_or l.counts k 0) l.step l.best l.tied
