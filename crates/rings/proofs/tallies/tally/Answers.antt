-- `tally` meets its contract: the table counts the first bytes of each class.
use Rattle.std.proofs.Common.{◌≡◌, ℕ, ◌+◌, ◌*◌, ◌/◌, ◌<◌, List, [], length, get_or, refl, ap, ◌∙◌, arith, rules}
use Rattle.lists.specs.Bytes.{byte_at}
use Rattle.rings.specs.Table.{tallied}
use Rattle.rings.proofs.Rooms.{room-other}
use Rattle.rings.proofs.Counted.{chunk-at, counted_none, counted-more, counted-all}
use Rattle.rings.proofs.tallies.tally.Goals as goal

pub returns-then-out-ne4096 : goal.returns-then-out-ne4096
unfolding tallied
returns-then-out-ne4096 c = room-other _ _ c.if-out-ne4096.true

pub loop-block-init : goal.loop-block-init
loop-block-init c = counted_none _ _ _ (length c.args.out.now) _ (search rules) (search rules) (omega arith)

pub loop-block-preserved : goal.loop-block-preserved
loop-block-preserved c =
    let l = c.loop-block in
    let bytes = c.args.stored.now in
    let chunks = c.as_chunks.ensures in
    let here : (r : ℕ) → r < 16 → byte_at (get_or c.as_chunks.result.0.now l.block-index []) r ≡ byte_at bytes (l.block-index * 16 + r) =
    λ r h. ap (λ (t : List (List ℕ)). byte_at (get_or t l.block-index []) r) chunks.front
    ∙ chunk-at (length bytes / 16) bytes [] l.block-index r (omega (arith, chunks.front_len)) h in
    counted-more _ _ _ l.block-index l.shift _ _ _ _ l.invariant refl here c.note_sixteen.ensures

pub returns : goal.returns
returns c =
    let l = c.loop-block in
    counted-all _ _ _ l.block-index l.shift _ _ (omega arith) (omega arith) l.invariant
