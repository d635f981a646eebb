-- `add` meets its contract: i bytes of each quarter are counted in its table, and those left over in the last.
use Rattle.std.proofs.Common.{◌≡◌, ◌*◌, ◌-◌, ◌≤◌}
use Rattle.census.specs.Tables.{Added}
use Rattle.census.proofs.quarters.Quarters.add.Given as goal

abbrev pub invariant-loop-i : goal.invariant-loop-i
invariant-loop-i l =
    Added l.bytes 0 l.i l.initial.self.a l.self.a
    × Added l.bytes l.q l.i l.initial.self.b l.self.b
    × Added l.bytes (2 * l.q) l.i l.initial.self.c l.self.c
    × Added l.bytes (3 * l.q) l.i l.initial.self.d l.self.d

abbrev pub invariant-loop-k : goal.invariant-loop-k
invariant-loop-k l =
    (4 * l.q ≤ l.k)
    × (l.self.a ≡ l.initial.self.a)
    × (l.self.b ≡ l.initial.self.b)
    × (l.self.c ≡ l.initial.self.c)
    × Added l.bytes (4 * l.q) (l.k - 4 * l.q) l.initial.self.d l.self.d
