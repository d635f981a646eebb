-- `put_entries` meets its contract: each turn puts one entry right behind those before it.
use Rattle.fields.specs.Fields.{Put}
use Rattle.parts.specs.Parts.{table_fields}
use Rattle.parts.proofs.tables.put_entries.Given as goal

abbrev pub invariant-loop-x : goal.invariant-loop-x
invariant-loop-x g l = let p = g.T.Entry in Put l.initial.out l.at (table_fields p.fields p.blank l.items l.x-index) l.out l.next
