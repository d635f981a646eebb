-- The guard, and then the row-count test.
use Rattle.std.proofs.Common.{rules}
use borrow.Author.Tests.{lt-ltb, le-ltb}
use Rattle.votes.specs.Votes.{is_verified}
use Rattle.votes.proofs.listing.is_verified.Goals as goal

pub returns-then-n-ne0 : goal.returns-then-n-ne0
unfolding is_verified
returns-then-n-ne0 c = rw (lt-ltb 0 c.args.n (search rules)) c.trailer_row_count_matches.ensures

pub returns-else-n-ne0 : goal.returns-else-n-ne0
unfolding is_verified
returns-else-n-ne0 c = rw (le-ltb 0 c.args.n (search rules)) (search rules)
