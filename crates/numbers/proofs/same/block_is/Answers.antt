-- `block_is` meets its contract: one byte after the other.
use Rattle.std.proofs.Common.{rules, ◌∙◌, ap, refl, ◌≡◌}
use borrow.Author.Tests.{tests}
use Rattle.std.proofs.lemmas.Fn.{fronts, slice_gives, fold_over}
use Rattle.lists.specs.Counts.{all_are}
use Rattle.numbers.proofs.Blocks.{are-push}
use Rattle.numbers.proofs.same.block_is.Goals as goal

pub returns : goal.returns
unfolding all_are
returns c =
    let a = c.args in
    fold_over fronts (λ y. y.now) _ (λ ys same. same ≡ all_are a.x ys) _ (λ ys s y r f j k. (search (rules, tests, are-push), search rules)) c.iter.result _ _ _ (slice_gives c.iter.result) refl c.fold.ensures.ran
    ∙ ap (all_are a.x) c.iter.ensures.rest
