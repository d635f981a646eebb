-- `put_all` meets its contract: each turn puts one entry right behind those before it.
use Rattle.std.specs.Prelude.{[], ◌∷◌}
use Rattle.fields.specs.Fields.{little, Put}
use Rattle.parts.specs.Parts.{table_fields}
use Rattle.parts.proofs.wholes.put_all.Given as goal

abbrev pub invariant-loop-x : goal.invariant-loop-x
invariant-loop-x g l = let p = g.T.Part in Put l.initial.out l.at (table_fields p.fields (little p.SIZE 0 ∷ []) l.items l.x-index) l.out l.next
