-- A table's place of the value.
use Prim.Native.Nat.{ℕ}
use mathlib.Core.Path.{◌≡◌, sym, ap, ◌∙◌}
use lib.ListN.{get_or}
use Rattle.votes.proofs.Ballots.{poll-not, poll-made}
use borrow.Author.Rules.{rules}
use Rattle.votes.proofs.polls.votes_for.Goals as goal

pub returns-then-shifted-ne4080 : goal.returns-then-shifted-ne4080
returns-then-shifted-ne4080 c = let e : c.default.result ≡ record { votes = 0; total = 0 } = search rules in e ∙ sym (poll-not _ _ (search rules))

pub returns : goal.returns
returns c =
    let e = c.exact_votes-ballots in
    ap (λ (k : ℕ). record { votes = get_or e.result.votes k 0; total = e.result.total }) c.from.ensures
    ∙ poll-made _ _ e.result (search rules) (search rules) e.ensures
