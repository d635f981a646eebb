-- The parts of the assessment, each by its function's promise.
use mathlib.Core.Path.{sym, ◌∙◌}
use Rattle.votes.proofs.Assessments.{assesses-made, assessed-not, assessed-is, assessment-made}
use borrow.Author.Rules.{rules}
use Rattle.votes.proofs.assess.Goals as goal

pub returns-then-shifted-ne4080 : goal.returns-then-shifted-ne4080
returns-then-shifted-ne4080 c = sym (assessed-not _ _ _ _ _ (search rules) ∙ rw c.none.ensures)

pub candidates-candidates-requires : goal.candidates-candidates-requires
candidates-candidates-requires c =
    assesses-made _ _ _ c.leaders-leaders.result c.value_counts-counts.ensures c.exact_votes-ballots.ensures c.leaders-leaders.ensures

pub returns : goal.returns
returns c =
    let a = c.args in
    assessment-made a.limit a.shifted.now a.anchors.now a.n a.t _ c.exact_votes-ballots.result _ _ c.value_counts-counts.ensures c.exact_votes-ballots.ensures
    c.leaders-leaders.ensures.top
    c.candidates-candidates.ensures
    ∙ sym (assessed-is _ _ _ _ _ (search rules))
