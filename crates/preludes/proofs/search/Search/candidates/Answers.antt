-- `candidates` meets its contract: field by field and gap by gap; left early, no later field changes the answer.
use borrow.Author.Rules.{rules}
use mathlib.Core.Bool.{true}
use mathlib.Core.Path.{◌≡◌, refl, ap, ◌∙◌}
use native.Mathlib.Omega.{arith}
use Prim.Native.Nat.{ℕ, ◌+◌}
use Rattle.lists.specs.Bytes.{pair_at}
use Rattle.preludes.specs.Preludes.{prelude_of, several}
use Rattle.lists.proofs.Picks.{never_both}
use Rattle.preludes.proofs.Fields.{prelude-none, gaps-none, gap_more, field-done, left-early}
use Rattle.preludes.proofs.Passing.{next-seen}
use Rattle.preludes.proofs.search.Search.candidates.Goals as goal
use Rattle.preludes.proofs.search.Search.candidates.Goals.{in-Several, in_default}

pub fields-init : goal.fields-init
fields-init c =
    let a = c.args.self.now in
    next-seen a.plain.now a.n 0 a.end c.next_field-field.result _ c.next_field-field.ensures (prelude-none _ _)

pub loop-k-init : goal.loop-k-init
loop-k-init c = (search rules, gaps-none _ _ _ _ c.fields.invariant.1)

pub loop-k-preserved : goal.loop-k-preserved
loop-k-preserved c =
    (search rules, gap_more _ _ _ _ refl (c.fields.invariant.2 c.fields-test.true) _ _ _ c.loop-k.invariant.1 c.note_gap-seen.ensures)

pub fields-preserved : goal.fields-preserved
fields-preserved c =
    let a = c.args.self.now in
    next-seen a.plain.now a.n (c.fields.field + 1) a.end c.next_field-field-in-fields.result c.loop-k.seen c.next_field-field-in-fields.ensures
    (field-done _ _ _ _ refl (c.fields.invariant.2 c.fields-test.true) _ _ c.loop-k.invariant.0 c.loop-k-test.false c.loop-k.invariant.1)

pub returns-after-fields : goal.returns-after-fields
returns-after-fields c =
    let a = c.args.self.now in
    let z : c.fields.field ≡ a.end = omega (arith, c.fields.invariant.0, c.fields-test.false) in
    c.fields.invariant.1 ∙ ap (λ (k : ℕ). prelude_of k a.plain.now a.n) z

pub returns-then-matches : goal.returns-then-matches
returns-then-matches c =
    let a = c.args.self.now in
    let p = a.plain.now in
    let q : several c.note_gap-seen.result ≡ true = elim c.match-matches.branch [ in-Several w ↦ ap several w.in-Several.is | in_default w ↦ absurd (never_both w.matches-is c.if-matches.true) ] in
    left-early p a.n c.fields.field (pair_at p c.fields.field) refl (c.fields.invariant.2 c.fields-test.true) a.end c.loop-k.k c.loop-k.seen c.note_gap-seen.result c.fields-test.true c.loop-k-test.true
    c.loop-k.invariant.1 c.note_gap-seen.ensures q
