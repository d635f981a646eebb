-- `locate` meets its contract: what is listed is sound, and few.
use Rattle.std.proofs.Common.{arith}
use Rattle.answers.specs.Settings.{directory}
use Rattle.slotted.proofs.Meaning.{located-sound}
use Rattle.slotted.proofs.locations.locate.Goals as goal

pub returns-clause-sound : goal.returns-clause-sound
returns-clause-sound c =
    let a = c.args in
    located-sound a.options.search_limit a.number a.plain.now (directory a.options) c.in_ok-d.d (omega (arith, c.type_inv.plain 0xFF0)) c.in_ok-d.ensures.decided
