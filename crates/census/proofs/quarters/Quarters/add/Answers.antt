-- `add` meets its contract: i bytes of each quarter are counted in its table, and those left over in the last.
use Rattle.std.proofs.Common.{◌≡◌, ◌/◌, length, arith, rules}
use Rattle.census.proofs.Counting.{added_none, added_more, past_none, past_more, quarters-count}
use Rattle.census.proofs.quarters.Quarters.add.Goals as goal

pub loop-i-init : goal.loop-i-init
loop-i-init c =
    (added_none _ _ _ (search rules), added_none _ _ _ (search rules), added_none _ _ _ (search rules), added_none _ _ _ (search rules))

pub loop-i-preserved : goal.loop-i-preserved
loop-i-preserved c =
    let t = c.loop-i.invariant in (
      added_more _ _ _ _ _ t.0 c.note.ensures (search rules) (search rules) (omega arith),
      added_more _ _ _ _ _ t.1 c.note-in-loop-i.ensures (search rules) (search rules) (omega arith),
      added_more _ _ _ _ _ t.2 c.note-in-loop-i-2.ensures (search rules) (search rules) (omega arith),
      added_more _ _ _ _ _ t.3 c.note-in-loop-i-3.ensures (search rules) (search rules) (omega arith),
    )

pub loop-k-init : goal.loop-k-init
loop-k-init c = (search rules, search rules, search rules, search rules, past_none _ _ _ (search rules))

pub loop-k-preserved : goal.loop-k-preserved
loop-k-preserved c =
    let t = c.loop-k.invariant in (
      search rules,
      search rules,
      search rules,
      search rules,
      past_more _ _ _ _ _ t.0 t.4 c.note-in-loop-k.ensures (search rules) (search rules) (search rules),
    )

pub returns : goal.returns
returns c v h =
    let l = c.loop-i in
    let k = c.loop-k in
    let bytes = c.args.bytes.now in
    let q = length bytes / 4 in
    let e : l.i ≡ q = omega arith in
    quarters-count bytes q e (search rules) l.invariant k.invariant.1 k.invariant.2 k.invariant.3 k.invariant.4 v h
