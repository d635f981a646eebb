-- `write_shifted` meets its contract: what was written are the shifted bytes of what was read.
use Rattle.std.proofs.Common.{ℕ, ◌<◌, List, [], ◌∷◌, ◌++◌, length, take, set, sym, refl, ap, ◌∙◌, add-one, arith, length-set, take_all, take-suc-set}
use Rattle.sector.specs.Fit.{shift_from, shifted_list}
use Rattle.sector.proofs.Shifts.{shift-more, shift-all}
use Rattle.sector.proofs.Scans.{shifted-refused, shifted-scanned}
use Rattle.sector.proofs.scan.write_shifted.Goals as goal

pub returns-then-stored-gt512 : goal.returns-then-stored-gt512
returns-then-stored-gt512 c =
    let a = c.args in
    shifted-refused a.offset a.stored.now a.step a.out.now c.then-stored-gt512.either

pub loop-i-init : goal.loop-i-init
unfolding shift_from
loop-i-init c = (c.if-out-stored.false, refl)

pub loop-i-preserved : goal.loop-i-preserved
loop-i-preserved c =
    let a = c.args in
    let l = c.loop-i in
    let x = c.shifted.result in
    let hx : l.i < length l.out = omega arith in (
      length-set l.out l.i x ∙ l.invariant.0,
      ap (λ (n : ℕ). take n (set l.out l.i x)) (add-one l.i)
          ∙ take-suc-set l.out l.i x hx
          ∙ ap (λ (t : List ℕ). t ++ (x ∷ [])) l.invariant.1
          ∙ ap (λ (y : ℕ). shifted_list a.offset a.step (take l.i a.stored.now) ++ (y ∷ [])) c.shifted.ensures
          ∙ sym (shift-more a.offset a.step a.stored.now l.i (omega arith)),
    )

pub returns : goal.returns
returns c =
    let a = c.args in
    let l = c.loop-i in
    sym (take_all l.i l.out (omega arith))
    ∙ l.invariant.1
    ∙ shift-all a.offset a.step a.stored.now l.i (omega arith)
    ∙ sym (shifted-scanned a.offset a.stored.now a.step a.out.now c.if-stored-gt512.false c.if-out-stored.false)
