-- The pass keeps the four greatest keys; the first is the top's, and the fourth tells the four commonest.
use Prim.Native.Nat.{ℕ}
use native.Mathlib.Omega.{arith}
use mathlib.Core.Path.{◌≡◌, ap, ◌∙◌, subst}
use lib.Dec.{ltb}
use Rattle.votes.proofs.Keys.{Four, key_at, four-none, four-more, four-as, four-reached, many-beat, top_key}
use Rattle.votes.proofs.commonest.leaders.Goals as goal

pub loop-v-init : goal.loop-v-init
loop-v-init c = four-none _

pub loop-v-preserved : goal.loop-v-preserved
loop-v-preserved c =
    four-as _ _ c.max-first.ensures c.max-second.ensures c.max-third.ensures c.max-fourth.ensures
    (four-more _ _ _ _ _ _ _ _ _ _ c.loop-v.invariant c.key-k.ensures c.min-j.ensures c.min-i.ensures c.min-h.ensures)

pub returns : goal.returns
returns c =
    let l = c.loop-v in
    let t = c.args.counts.now in
    let e : l.v ≡ 256 = omega arith in
    let four = subst (λ (n : ℕ). Four (key_at t) n l.first l.second l.third l.fourth) e l.invariant in
    record {
      top = top_key t l.first four.first;
      fourth = λ v h. ap (λ (n : ℕ). ltb n 4) (many-beat t v h) ∙ four-reached (key_at t) 256 _ _ _ _ (key_at t v) four;
    }
