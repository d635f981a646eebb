-- `decide_page` meets its contract: what is listed is sound.
use Rattle.std.proofs.Common.{rules}
use Rattle.answers.specs.Settings.{directory}
use Rattle.directory.proofs.Decisions.{page-sound}
use Rattle.directory.proofs.verdicts.decide_page.Goals as goal

pub returns-clause-sound : goal.returns-clause-sound
returns-clause-sound c =
    let a = c.args in
    page-sound a.options.search_limit a.number a.plain.now (directory a.options) c.map_err.result (search rules)
