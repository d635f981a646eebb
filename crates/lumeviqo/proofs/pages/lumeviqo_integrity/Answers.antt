-- `lumeviqo_integrity` meets its contract: what was found is told.
use mathlib.Core.Path.{ap, ◌∙◌}
use Rattle.numbers.proofs.Stored.{wrote-same}
use Rattle.layout.specs.Layouts.{integrity_bytes}
use Rattle.lumeviqo.proofs.pages.lumeviqo_integrity.Goals as goal

pub returns : goal.returns
returns c =
    wrote-same (ap integrity_bytes (c.err.ensures.value ∙ c.check_integrity.ensures)) c.write.ensures
