-- `modal_counts` meets its contract: the table is filled with the modal counts of the steps that were seen.
use Prim.Native.Nat.{ℕ}
use mathlib.Core.Path.{refl, ap, ◌∙◌}
use mathlib.Core.List.{List}
use native.Mathlib.Omega.{arith}
use borrow.Author.Rules.{rules}
use lib.ListN.{get_or}
use Rattle.lists.proofs.Each.{each_at}
use Rattle.lists.proofs.Filled.{filled_none, filled_more}
use Rattle.classes.proofs.Meaning.{table-modal}
use Rattle.classes.proofs.counts.modal_counts.Goals as goal

pub loop-step-init : goal.loop-step-init
loop-step-init c = (c.requires.1, filled_none _ _ _ refl)

pub recount-requires : goal.recount-requires
recount-requires c =
    let p = c.requires in
    let l = c.loop-step in
    (p.0.short, l.invariant.0, ap (λ (t : List ℕ). get_or t l.step 0) c.capped_counts-capped.ensures ∙ each_at _ 256 l.step 0 (search rules) ∙ table-modal _ _ p.0 l.step)

pub loop-step-preserved : goal.loop-step-preserved
loop-step-preserved c =
    let l = c.loop-step in
    let p = c.recount in
    (p.auto.room ∙ l.invariant.0, filled_more _ _ _ l.step p.result l.invariant.1 (omega arith) p.ensures)
