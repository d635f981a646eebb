-- `replace_sector` meets its contract: one outcome for each answer.
use Rattle.std.proofs.Common.{Ok, Some, None, length, ap, ◌∙◌, ◌≡◌}
use Rattle.std.proofs.lemmas.Result.{err_from_is_err_and}
use native.Mathlib.Omega.{arith}
use Rattle.answers.specs.declared.kinds.Refusal.TheVariants.{BadReplacement}
use Rattle.summary.specs.Replace.{sector_answer}
use Rattle.summary.proofs.Outcomes.{checked-sizes, checked-refused, checked-good, sector-above, sector-resized, sector-taken, replace-renews}
use Rattle.summary.proofs.replacing.replace_sector.Goals as goal

pub returns-in_err-check_sizes : goal.returns-in_err-check_sizes
returns-in_err-check_sizes c =
    let a = c.args in
    let x = c.in_err-check_sizes in
    let w = checked-refused (length a.stored.now) (length a.shifted.now) (sector_answer a.sector a.new.now) x.field-0.0 x.ensures in
    let kept = replace-renews a.number a.sector a.new.now a.stored.now a.shifted.now a.fits (Some x.field-0.0) w in
    let p = err_from_is_err_and c.from_residual.result c.from_residual.ensures.1 in
    rw (p.1, p.2) kept

pub returns-then-sector-gt7 : goal.returns-then-sector-gt7
returns-then-sector-gt7 c =
    let a = c.args in
    let sizes = checked-sizes (length a.stored.now) (length a.shifted.now) c.in_ok-check_sizes.ensures in
    let refused : Some (BadReplacement a.sector) ≡ sector_answer a.sector a.new.now =
    grind (arith, sector-above a.sector a.new.now, sector-resized a.sector a.new.now) in
    let w = refused ∙ checked-good (length a.stored.now) (length a.shifted.now) (sector_answer a.sector a.new.now) sizes.0 sizes.1 in
    replace-renews a.number a.sector a.new.now a.stored.now a.shifted.now a.fits (Some (BadReplacement a.sector)) w

pub returns : goal.returns
returns c =
    let a = c.args in
    let s = a.sector in
    let sizes = checked-sizes (length a.stored.now) (length a.shifted.now) c.in_ok-check_sizes.ensures in
    let w =
    sector-taken s a.new.now (omega arith) (omega arith) ∙ checked-good (length a.stored.now) (length a.shifted.now) (sector_answer s a.new.now) sizes.0 sizes.1 in
    let kept = replace-renews a.number s a.new.now a.stored.now a.shifted.now a.fits None w in
    let put = c.put_sector.ensures in
    (ap Ok put.value ∙ kept.0, put.stored_after ∙ kept.1, put.shifted_after ∙ kept.2)
