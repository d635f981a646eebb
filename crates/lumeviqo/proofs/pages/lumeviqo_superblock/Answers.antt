-- `lumeviqo_superblock` meets its contract: what was found is told.
use mathlib.Core.Path.{ap}
use Rattle.numbers.proofs.Stored.{wrote-same}
use Rattle.layout.specs.Layouts.{superblock_bytes}
use Rattle.lumeviqo.proofs.pages.lumeviqo_superblock.Goals as goal

pub returns : goal.returns
returns c =
    wrote-same (ap superblock_bytes c.parse.ensures) c.write.ensures
