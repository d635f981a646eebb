-- `sweep` meets its contract: what `Swept` says holds as the pass comes down.
use Rattle.std.proofs.Common.{refl, ◌∙◌, arith, rules}
use Rattle.slots.proofs.Plain.{in-text}
use Rattle.slots.proofs.Sweeps.{swept_none, swept-last, swept-more, swept_all}
use Rattle.slots.proofs.values.Plain.sweep.Goals as goal

pub returns-then-self-eq0 : goal.returns-then-self-eq0
returns-then-self-eq0 c =
    c.directory_of.ensures ∙ swept_all _ _ _ _ _ _ (swept_none _ _ _ _ c.no_tail-near.ensures c.no_tail-far.ensures) c.if-self-eq0.true

pub loop-s-init : goal.loop-s-init
loop-s-init c =
    let le = in-text c.args.self.now in
    (search rules, swept-last _ _ _ _ le (omega arith) c.no_tail-near.ensures c.no_tail-far.ensures)

pub loop-s-preserved : goal.loop-s-preserved
loop-s-preserved c =
    let le = in-text c.args.self.now in (
      search rules,
      swept-more _ _ _ _ _ _ _ (swept-more _ _ _ _ _ _ _ c.loop-s.invariant.1 (omega arith) _ _ le c.tail_at-far.ensures c.kept-best.ensures) (omega arith) _ _ le c.tail_at-near.ensures c.kept-best-in-loop-s.ensures,
    )

pub returns-then-s-eq1 : goal.returns-then-s-eq1
returns-then-s-eq1 c =
    let le = in-text c.args.self.now in
    c.directory_of-then-s-eq1.ensures ∙ swept_all _ _ _ _ _ _ (swept-more _ _ _ _ _ _ _ c.loop-s.invariant.1 (omega arith) _ _ le c.tail_at.ensures c.kept.ensures) refl

pub returns : goal.returns
returns c = c.directory_of-2.ensures ∙ swept_all _ _ _ _ _ _ c.loop-s.invariant.1 (omega arith)
