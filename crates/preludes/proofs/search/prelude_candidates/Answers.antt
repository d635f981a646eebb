-- `prelude_candidates` meets its contract: a limit past the fields is their end.
use Rattle.preludes.proofs.Fields.{fields-all}
use Rattle.preludes.proofs.search.prelude_candidates.Goals as goal

pub returns : goal.returns
returns c =
    let e = c.new.ensures in
    fields-all _ _ _ c.new.result.end _ e.end (rw (← e.same.0, ← e.same.1) c.candidates.ensures)
