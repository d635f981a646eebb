-- What was settled of a page that its integrity lets through. Assumes nothing.
use mathlib.Core.Path.{sym, ◌∙◌}
use Rattle.verdict.proofs.DecisionCases.{verdict-chosen}
use Rattle.verdict.proofs.decisions.decide.Goals as goal

pub returns : goal.returns
returns c =
    c.settle.ensures
    ∙ rw (c.keystream.ensures, c.note-warnings.ensures, c.none.ensures, c.integrity_warning.ensures)
    (sym (verdict-chosen _ _ _ _ _ _ _ c.in_ok-let_through.ensures c.in_ok-choice.choice c.in_ok-choice.ensures))
