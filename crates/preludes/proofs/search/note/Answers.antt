-- `note` meets its contract, a law of `noted` for each arm.
use mathlib.Core.Path.{sym, ◌∙◌}
use Rattle.preludes.proofs.Fields.{noted-same, noted-missing, noted-cut, noted-second, noted-not, noted-several}
use Rattle.preludes.proofs.search.note.Goals as goal

pub returns-then-start-s : goal.returns-then-start-s
returns-then-start-s c = noted-same _ _ _ _ _ c.in-One.is c.if-start-s.true

pub returns-in-Missing : goal.returns-in-Missing
returns-in-Missing c = noted-missing _ _ _ _ _ c.in-Missing.is c.note_first.ensures

pub returns-in-Truncated : goal.returns-in-Truncated
returns-in-Truncated c =
    let a = c.args in
    noted-cut a.n a.start a.run a.seen c.note_first-in-Truncated.result c.in-Truncated.found _ c.in-Truncated.is c.note_first-in-Truncated.ensures

pub returns-then-is_whole : goal.returns-then-is_whole
returns-then-is_whole c = noted-second _ _ _ _ _ c.in-One.is (sym c.is_whole.ensures ∙ c.if-is_whole.true) c.if-start-s.false

pub returns-else-is_whole : goal.returns-else-is_whole
returns-else-is_whole c = noted-not _ _ _ _ _ c.in-One.is (sym c.is_whole.ensures ∙ c.if-is_whole.false)

pub returns-in-Several : goal.returns-in-Several
returns-in-Several c = noted-several _ _ _ _ c.in-Several.is
