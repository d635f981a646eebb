-- `capped_counts` meets its contract: after m countings the table has the counts of all steps that are below m modulo 16.
use mathlib.Core.Path.{◌≡◌}
use lib.ListN.{length}
use Rattle.classes.specs.Engine.{engine_at}
use Rattle.classes.proofs.Steps.{Known}
use Rattle.classes.proofs.counts.capped_counts.Given as goal

abbrev pub invariant-loop-m : goal.invariant-loop-m
invariant-loop-m l =
    (length l.sixteen ≡ 4096)
    × (length l.twice ≡ 4096)
    × (length l.eight ≡ 4096)
    × Known (engine_at l.offset l.stored) l.m l.counts
