-- `rescan` meets its contract: after each sector, the fits and the shifted bytes of those that are done.
use native.Mathlib.Omega.{arith}
use borrow.Author.Rules.{rules}
use Rattle.summary.proofs.Rescans.{rescanned-none, rescanned-more}
use Rattle.summary.proofs.rescan.rescan.Goals as goal

pub loop-done-init : goal.loop-done-init
loop-done-init c = rescanned-none _ _ _ _ _ (search rules)

pub loop-done-preserved : goal.loop-done-preserved
loop-done-preserved c =
    let a = c.args in
    let p = c.requires in
    let l = c.loop-done in
    let scan = c.scan_sector in
    rescanned-more a.number a.stored.now a.first _ _ l.done l.next l.shifted l.invariant p.1 (omega (arith, p)) _ _
    c.ap_offset-offset.ensures c.sector_end-end.ensures scan.result scan.new.out scan.ensures.value scan.ensures.out_after
