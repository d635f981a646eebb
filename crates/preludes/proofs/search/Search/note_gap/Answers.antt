-- `note_gap` meets its contract, by the gap and the pair behind the field.
use native.Mathlib.Omega.{arith}
use Prim.Native.Nat.{◌+◌}
use Rattle.preludes.proofs.Fields.{taken-few, gap_other, gap-four, gap-six}
use Rattle.preludes.proofs.search.Search.note_gap.Goals as goal
use Rattle.preludes.proofs.search.Search.note_gap.Goals.{else-gap-ne4-via-then-gap-ne4+else-pair_at-ne0, else-gap-ne4-via-else-gap-ne4}

pub returns-then-pair_at-ne0 : goal.returns-then-pair_at-ne0
returns-then-pair_at-ne0 c = gap_other _ _ _ _ _ _ c.if-gap-ne4.true c.pair_at.ensures.0 c.if-pair_at-ne0.true

pub note-requires : goal.note-requires
note-requires c =
    let a = c.args in
    let h = taken-few a.self.now.plain.now a.self.now.n (a.field + a.gap) c.declared_run.result c.declared_run.ensures in
    (omega arith, omega arith)

pub returns : goal.returns
returns c =
    let a = c.args in
    let p = a.self.now.plain.now in
    elim c.else-gap-ne4.branch [
      | else-gap-ne4-via-then-gap-ne4+else-pair_at-ne0 w ↦ gap-six p a.self.now.n a.field a.gap a.seen c.declared_run.result c.note.result c.declared_run.ensures c.note.ensures w.pair_at.result w.if-gap-ne4.true w.pair_at.ensures.0 w.if-pair_at-ne0.false
      | else-gap-ne4-via-else-gap-ne4 w ↦ gap-four p a.self.now.n a.field a.gap a.seen c.declared_run.result c.note.result c.declared_run.ensures c.note.ensures w.if-gap-ne4.false
    ]
