-- `lumeviqo_trailer` meets its contract: what was found is told.
use mathlib.Core.Path.{ap}
use Rattle.numbers.proofs.Stored.{wrote-same}
use Rattle.layout.specs.Layouts.{trailer_bytes}
use Rattle.lumeviqo.proofs.pages.lumeviqo_trailer.Goals as goal

pub returns : goal.returns
returns c =
    wrote-same (ap trailer_bytes c.parse.ensures) c.write.ensures
