-- `declared_run` meets its contract: the slots up to where they end.
use Rattle.preludes.proofs.Fields.{declared-at}
use Rattle.preludes.proofs.search.Search.declared_run.Goals as goal

pub returns : goal.returns
returns c = declared-at _ _ _ _ _ c.declared_end.ensures c.run_at.ensures
