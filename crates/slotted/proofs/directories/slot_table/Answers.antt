-- `slot_table` meets its contract, slot by slot.
use Rattle.std.proofs.Common.{◌<◌, refl, ◌∙◌, arith}
use Rattle.lists.specs.Pieces.{each}
use Rattle.slots.proofs.Slices.{slot-there}
use Rattle.slotted.proofs.Parses.{table_more}
use Rattle.slotted.proofs.directories.slot_table.Goals as goal

pub loop-k-init : goal.loop-k-init
unfolding each
loop-k-init c = refl

pub loop-k-preserved : goal.loop-k-preserved
loop-k-preserved c =
    let a = c.args in
    let h : c.loop-k.k < 1024 = omega (arith, c.min.ensures, c.slots_at-slots.ensures.long (omega (arith, c.requires, c.min.ensures))) in
    table_more a.plain.now a.start c.loop-k.k c.pair_of.result c.loop-k.table h
    (c.pair_of.ensures.value ∙ slot-there a.plain.now a.start c.min.result c.slots_at-slots.result.now c.loop-k.k _ (c.slots_at-slots.ensures.slots (omega (arith, c.requires, c.min.ensures))) c.loop-k-test.true) c.loop-k.invariant
