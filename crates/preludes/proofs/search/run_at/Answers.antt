-- `run_at` meets its contract: what `Going` says holds while the run is read.
use Prim.Native.Nat.{◌+◌, ◌*◌, ◌≤◌}
use native.Mathlib.Omega.{arith}
use mathlib.Core.Path.{◌≡◌, sym, ◌∙◌}
use lib.ListN.{length}
use Rattle.preludes.proofs.Runs.{slots-past, slots-none, going-first, going-zero, going-live, stop-small, stop-above, stop-end, slot-first, going-to}
use Rattle.slots.proofs.Slices.{slot-room, slot-behind, slots-over}
use Rattle.preludes.proofs.search.run_at.Goals as goal
use Rattle.preludes.proofs.search.run_at.Goals.{then-w-ne0+else-w-lt-SLOT_OFFSET_MIN+else-prev-w, else-w-ne0}

pub returns-then-end-at : goal.returns-then-end-at
returns-then-end-at c = slots-past _ _ _ c.if-end-at.true

pub returns-then-not-is_offset : goal.returns-then-not-is_offset
returns-then-not-is_offset c =
    slots-none _ _ _ _ c.requires.0 c.if-end-at.false c.pair_at-first.ensures.0 (sym c.is_offset.ensures ∙ c.if-not-is_offset.true)

pub loop-k-init : goal.loop-k-init
loop-k-init c =
    going-to _ (omega arith) (going-first _ _ _ _ c.requires.0 c.if-end-at.false c.pair_at-first.ensures.0 (sym c.is_offset.ensures ∙ c.if-not-is_offset.false))

pub returns-then-w-lt-SLOT_OFFSET_MIN : goal.returns-then-w-lt-SLOT_OFFSET_MIN
returns-then-w-lt-SLOT_OFFSET_MIN c =
    let a = c.args in
    let room = slot-room a.end a.plain.now a.at c.requires.0 (omega arith) c.pairs_in-slots.result.now c.pairs_in-slots.ensures c.loop-k.k c.loop-k-test.true in
    let is = c.pair_of-w.ensures.value ∙ slot-behind a.end a.plain.now a.at c.requires.0 (omega arith) c.pairs_in-slots.result.now c.pairs_in-slots.ensures c.loop-k.k _ c.loop-k-test.true in
    stop-small _ _ _ _ _ _ _ _ c.loop-k.invariant c.requires.0 room is c.if-w-ne0.true c.if-w-lt-SLOT_OFFSET_MIN.true

pub returns-then-prev-w : goal.returns-then-prev-w
returns-then-prev-w c =
    let a = c.args in
    let room = slot-room a.end a.plain.now a.at c.requires.0 (omega arith) c.pairs_in-slots.result.now c.pairs_in-slots.ensures c.loop-k.k c.loop-k-test.true in
    let is = c.pair_of-w.ensures.value ∙ slot-behind a.end a.plain.now a.at c.requires.0 (omega arith) c.pairs_in-slots.result.now c.pairs_in-slots.ensures c.loop-k.k _ c.loop-k-test.true in
    stop-above _ _ _ _ _ _ _ _ c.loop-k.invariant c.requires.0 room is c.if-w-ne0.true c.if-prev-w.true

pub loop-k-preserved : goal.loop-k-preserved
loop-k-preserved c =
    let a = c.args in
    let room = slot-room a.end a.plain.now a.at c.requires.0 (omega arith) c.pairs_in-slots.result.now c.pairs_in-slots.ensures c.loop-k.k c.loop-k-test.true in
    let is = c.pair_of-w.ensures.value ∙ slot-behind a.end a.plain.now a.at c.requires.0 (omega arith) c.pairs_in-slots.result.now c.pairs_in-slots.ensures c.loop-k.k _ c.loop-k-test.true in
    elim c.if-w-ne0.branch [
      | then-w-ne0+else-w-lt-SLOT_OFFSET_MIN+else-prev-w w ↦ rw (w.prev-is, w.live-is) (going-to _ (omega arith) (going-live a.end a.plain.now a.at c.loop-k.prev c.loop-k.k c.loop-k.live (a.at + 2 * c.loop-k.k) c.pair_of-w.result c.loop-k.invariant c.requires.0 room is w.if-w-lt-SLOT_OFFSET_MIN.false w.if-prev-w.false))
      | else-w-ne0 w ↦ rw (w.prev-is, w.live-is) (going-to _ (omega arith) (going-zero a.end a.plain.now a.at c.loop-k.prev c.loop-k.k c.loop-k.live (a.at + 2 * c.loop-k.k) c.pair_of-w.result c.loop-k.invariant c.requires.0 room is w.if-w-ne0.false))
    ]

pub returns : goal.returns
returns c =
    let a = c.args in
    let some : 1 ≤ length c.pairs_in-slots.result.now = slot-first a.end a.at _ (slots-over a.end a.plain.now a.at c.requires.0 (omega arith) c.pairs_in-slots.result.now c.pairs_in-slots.ensures 0) (omega arith) in
    let e : c.loop-k.k ≡ length c.pairs_in-slots.result.now = omega arith in
    rw (← e)
    (stop-end _ _ _ _ _ _ _ c.loop-k.invariant (slots-over a.end a.plain.now a.at c.requires.0 (omega arith) c.pairs_in-slots.result.now c.pairs_in-slots.ensures c.loop-k.k c.loop-k-test.false))
