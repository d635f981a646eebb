-- From no counts on, those of the page.
use Rattle.std.proofs.Common.{ℕ, ◌%◌, ◌∙◌, arith}
use Rattle.std.proofs.lemmas.List.{get_or-replicate}
use Rattle.lists.specs.Counts.{count}
use Rattle.lists.proofs.Count.{count-le}
use Rattle.lists.proofs.Each.{each-ext}
use Rattle.census.specs.Tables.{held}
use Rattle.votes.specs.Votes.{counts_of}
use Rattle.votes.proofs.counts.value_counts.Goals as goal

pub returns : goal.returns
unfolding counts_of
returns c =
    let bytes = c.args.bytes.now in
    c.sums.ensures
    ∙ each-ext (λ v. held c.add.new.self v % 65536) (λ v. count v bytes) 256
    (λ v h.
    omega
    (arith, c.requires, c.add.ensures v h, c.after-counts.ensures v h, get_or-replicate {A = ℕ} 256 v 0 0 h, count-le v bytes))
