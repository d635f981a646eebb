-- `skip` meets its contract: there is no newline in the groups passed.
use Rattle.std.proofs.Common.{rules, ℕ, sym, ◌∙◌, ap, ◌≡◌, ◌/◌, arith, length}
use borrow.Author.Tests.{tests}
use Rattle.std.specs.Option.{unwrap_or}
use Rattle.std.specs.Slice.Iter.{chunks_exact_rest, chunks_exact_size, chunks_exact_steps}
use Rattle.lines.specs.Input.{up_to}
use Rattle.lines.proofs.Newlines.{up-skip, groups-found}
use Rattle.lines.proofs.ends.skip.Goals as goal

pub returns-clause-passed : goal.returns-clause-passed
returns-clause-passed c =
    let l = c.args.chars.now in
    let h = c.position.ensures.ran in
    let rest : chunks_exact_rest c.chunks_exact.result ≡ l = c.chunks_exact.ensures.rest in
    let p = groups-found chunks_exact_steps chunks_exact_rest chunks_exact_size _ _ (λ s b t e. (e.0, e.1.0, e.1.1)) (λ b f k. (search rules, search (rules, tests))) (λ s t e. e.1.0)
    h.0 c.chunks_exact.result h.3.0 _ h.1 h.2 _ c.unwrap_or-passed.result c.chunks_exact.ensures.size h.3.1 h.3.2 h.4 h.5
    (c.unwrap_or-passed.ensures ∙ ap (λ (n : ℕ). unwrap_or c.position.result (n / 64)) (ap length (sym rest))) in
    up-skip _ l (omega (arith, p, ap up_to rest))
