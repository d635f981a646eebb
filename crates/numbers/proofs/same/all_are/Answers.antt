-- `all_are` meets its contract: the bytes are taken block by block.
use Rattle.std.proofs.Common.{rules, ◌∙◌, ap}
use borrow.Author.Tests.{tests}
use Rattle.std.specs.Slice.Iter.{chunks_rest, chunks_steps}
use Rattle.lists.specs.Counts.{all_are}
use Rattle.numbers.proofs.Blocks.{blocks-are}
use Rattle.numbers.proofs.same.all_are.Goals as goal

pub returns : goal.returns
returns c =
    let a = c.args in
    let h = c.all.ensures.ran in
    blocks-are a.x chunks_steps chunks_rest _ _ (λ s t e. e.1.0) (λ s b t e. e.1.0) (λ b r f k. (search rules, search (rules, tests))) h.0 _ h.3.0 _ h.1 h.2 _ h.3.1 h.3.2 h.4 h.5
    ∙ ap (all_are a.x) c.chunks.ensures.rest
