-- `slot_table` meets its contract, slot by slot.
use mathlib.Core.Path.{◌≡◌}
use Rattle.directory.specs.Directory.{slots_of}
use Rattle.slotted.specs.Parses.{table_of}
use Rattle.slotted.proofs.directories.slot_table.Given as goal

abbrev pub invariant-loop-k : goal.invariant-loop-k
invariant-loop-k l = l.table ≡ table_of (slots_of l.plain l.start l.k)
