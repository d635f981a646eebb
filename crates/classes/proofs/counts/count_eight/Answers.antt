-- `count_eight` meets its contract: the folded table serves the four steps that are s modulo 64, and the four that are s + 32.
use mathlib.Core.Path.{◌∙◌}
use Rattle.rings.proofs.Rooms.{folded-room}
use Rattle.classes.proofs.Steps.{fills-eight}
use Rattle.classes.proofs.counts.count_eight.Goals as goal

pub returns-clause-fills : goal.returns-clause-fills
returns-clause-fills c =
    let p = c.requires in
    fills-eight c.args.s _ _ p.0 (c.fold.ensures ∙ folded-room _ p.1 _ _ _) c.count_four.ensures c.count_four-2.ensures
