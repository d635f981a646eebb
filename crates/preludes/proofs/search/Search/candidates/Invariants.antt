-- `candidates` meets its contract: field by field and gap by gap; left early, no later field changes the answer.
use mathlib.Core.Path.{◌≡◌}
use Prim.Native.Nat.{◌-◌, ◌≤◌, ◌<◌}
use Rattle.lists.specs.Bytes.{pair_at}
use Rattle.preludes.specs.Preludes.{prelude_of}
use Rattle.preludes.proofs.Fields.{gaps_noted}
use Rattle.preludes.proofs.search.Search.candidates.Given as goal

abbrev pub invariant-loop-k : goal.invariant-loop-k
invariant-loop-k l = (l.k ≤ 2) × (l.seen ≡ gaps_noted l.self.plain.now l.self.n l.field l.k (prelude_of l.field l.self.plain.now l.self.n))

abbrev pub invariant-fields : goal.invariant-fields
invariant-fields l =
    (l.field ≤ l.self.end) × (l.seen ≡ prelude_of l.field l.self.plain.now l.self.n) × (l.field < l.self.end → pair_at l.self.plain.now l.field ≡ l.self.n)

abbrev pub decreases-loop-k : goal.decreases-loop-k
decreases-loop-k l = 2 - l.k

abbrev pub decreases-fields : goal.decreases-fields
decreases-fields l = l.self.end - l.field
