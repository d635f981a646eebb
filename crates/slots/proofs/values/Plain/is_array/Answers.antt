-- `is_array` meets its contract: what `Seen` says holds while fewer than four live slots were seen.
use Rattle.std.proofs.Common.{sym, ◌∙◌, ◌+◌, ◌*◌, arith}
use Rattle.slots.specs.Plain.{text}
use Rattle.slots.proofs.Slices.{slots-over}
use Rattle.slots.proofs.Plain.{in-text, slot-read}
use Rattle.slots.proofs.Looks.{array-past, array-none, seen_first, seen-zero, seen-live, seen-four, seen-small, seen-above, seen_end, seen-to}
use Rattle.slots.proofs.values.Plain.is_array.Goals as goal
use Rattle.slots.proofs.values.Plain.is_array.Goals.{then-w-ne0+else-w-lt-SLOT_OFFSET_MIN+else-prev-w+else-live-eq3, else-w-ne0}

pub returns-then-self-at : goal.returns-then-self-at
returns-then-self-at c = array-past _ _ _ c.if-self-at.true

pub returns-then-not-is_offset : goal.returns-then-not-is_offset
returns-then-not-is_offset c =
    array-none _ _ _ _ (in-text c.args.self.now) c.if-self-at.false c.pair_at-first.ensures.0 (sym c.is_offset.ensures ∙ c.if-not-is_offset.true)

pub loop-slot-init : goal.loop-slot-init
loop-slot-init c =
    seen-to _ (omega arith) (seen_first _ _ _ _ (in-text c.args.self.now) c.if-self-at.false c.pair_at-first.ensures.0 (sym c.is_offset.ensures ∙ c.if-not-is_offset.false))

pub returns-then-w-lt-SLOT_OFFSET_MIN : goal.returns-then-w-lt-SLOT_OFFSET_MIN
returns-then-w-lt-SLOT_OFFSET_MIN c =
    let a = c.args in
    let p = a.self.now in
    let r = slot-read p (a.at + 2) (omega arith) c.pairs_in-slots.result.now c.pairs_in-slots.ensures c.loop-slot.slot-index c.pair_of-w.result _ c.loop-slot-test.true c.pair_of-w.ensures.value in
    seen-small _ _ _ _ _ _ _ c.loop-slot.invariant (in-text p) r.0 r.1 c.if-w-ne0.true c.if-w-lt-SLOT_OFFSET_MIN.true

pub returns-then-prev-w : goal.returns-then-prev-w
returns-then-prev-w c =
    let a = c.args in
    let p = a.self.now in
    let r = slot-read p (a.at + 2) (omega arith) c.pairs_in-slots.result.now c.pairs_in-slots.ensures c.loop-slot.slot-index c.pair_of-w.result _ c.loop-slot-test.true c.pair_of-w.ensures.value in
    seen-above _ _ _ _ _ _ _ c.loop-slot.invariant (in-text p) r.0 r.1 c.if-w-ne0.true c.if-prev-w.true

pub returns-then-live-eq3 : goal.returns-then-live-eq3
returns-then-live-eq3 c =
    let a = c.args in
    let p = a.self.now in
    let r = slot-read p (a.at + 2) (omega arith) c.pairs_in-slots.result.now c.pairs_in-slots.ensures c.loop-slot.slot-index c.pair_of-w.result _ c.loop-slot-test.true c.pair_of-w.ensures.value in
    seen-four _ _ _ _ _ _ _ c.loop-slot.invariant (in-text p) r.0 r.1 c.if-w-lt-SLOT_OFFSET_MIN.false c.if-prev-w.false c.if-live-eq3.true

pub loop-slot-preserved : goal.loop-slot-preserved
loop-slot-preserved c =
    let a = c.args in
    let p = a.self.now in
    let r = slot-read p (a.at + 2) (omega arith) c.pairs_in-slots.result.now c.pairs_in-slots.ensures c.loop-slot.slot-index c.pair_of-w.result _ c.loop-slot-test.true c.pair_of-w.ensures.value in
    elim c.if-w-ne0.branch [
      | then-w-ne0+else-w-lt-SLOT_OFFSET_MIN+else-prev-w+else-live-eq3 w ↦ rw (w.prev-is, w.live-is) (seen-to _ (omega arith) (seen-live p.end (text p) a.at c.loop-slot.prev c.loop-slot.live (a.at + 2 + 2 * c.loop-slot.slot-index) c.pair_of-w.result c.loop-slot.invariant (in-text p) r.0 r.1 w.if-w-lt-SLOT_OFFSET_MIN.false w.if-prev-w.false w.if-live-eq3.false))
      | else-w-ne0 w ↦ rw (w.prev-is, w.live-is) (seen-to _ (omega arith) (seen-zero p.end (text p) a.at c.loop-slot.prev c.loop-slot.live (a.at + 2 + 2 * c.loop-slot.slot-index) c.pair_of-w.result c.loop-slot.invariant (in-text p) r.0 r.1 w.if-w-ne0.false))
    ]

pub returns : goal.returns
returns c =
    let a = c.args in
    let p = a.self.now in
    seen_end _ _ _ _ _ _ c.loop-slot.invariant (slots-over p.end p.bytes.now (a.at + 2) p.inside (omega arith) c.pairs_in-slots.result.now c.pairs_in-slots.ensures c.loop-slot.slot-index c.loop-slot-test.false)
