-- `count_inside` meets its contract: those that are kept, counted.
use Rattle.std.proofs.Common.{◌≡◌, ◌∙◌, rules}
use Rattle.std.proofs.iter.runs.Made.{chains}
use Rattle.std.specs.List.{count_by}
use Rattle.slots.specs.Slots.{slot_value}
use Rattle.directory.specs.Directory.{is_inside}
use Rattle.directory.proofs.Inside.{count_kept}
use Rattle.directory.proofs.verdicts.count_inside.Goals as goal

pub returns : goal.returns
returns c =
    let a = c.args in
    let e : c.count.result ≡ count_by (λ s. is_inside a.start a.stop (slot_value s)) a.slots.now = search (rules, chains) in
    e ∙ count_kept (is_inside a.start a.stop) a.slots.now
