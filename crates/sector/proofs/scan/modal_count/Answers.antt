-- `modal_count` meets its contract: 0 where a check fails, else the greatest entry of a table of counts, which is the greatest count.
use Rattle.std.proofs.Common.{◌≡◌, ℕ, ◌≤◌, List, length, sym, ap, ◌∙◌, arith}
use Rattle.lists.specs.Counts.{count}
use Rattle.lists.proofs.Greatest.{greatest-ext}
use Rattle.sector.specs.Fit.{modal_of, modal_at}
use Rattle.sector.proofs.Scans.{modal-refused, shifted-refused, modal-scanned, shifted-scanned}
use Rattle.sector.proofs.scan.modal_count.Goals as goal

pub returns-then-stored-gt512 : goal.returns-then-stored-gt512
returns-then-stored-gt512 c =
    let a = c.args in
    let refused = c.then-stored-gt512.either in
    record {
      value = modal-refused a.offset a.stored.now a.step a.room.now refused;
      room_after = shifted-refused a.offset a.stored.now a.step a.room.now refused;
    }

pub returns-clause-value : goal.returns-clause-value
unfolding modal_at modal_of
returns-clause-value c =
    let a = c.args in
    let l : List ℕ = a.stored.now in
    let h : length l ≤ 512 = omega arith in
    let e : length a.room.now ≡ length l = omega arith in
    c.largest.ensures
    ∙ greatest-ext _ _ 256 (λ v q. c.histogram.ensures.at v q ∙ ap (count v) (c.write_shifted.ensures ∙ shifted-scanned a.offset l a.step a.room.now h e))
    ∙ sym (modal-scanned a.offset l a.step a.room.now h e)
