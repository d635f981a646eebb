-- `scan_sector` meets its contract: a blank where a check fails, else the fit and the bytes written under its step.
use Rattle.std.proofs.Common.{◌≡◌, ◌≤◌, length, sym, ap, ◌∙◌, arith}
use Rattle.sector.specs.Fit.{shifted_list, sector_of}
use Rattle.sector.specs.declared.fits.Fit.{Fit}
use Rattle.sector.proofs.Scans.{fit-refused, out-refused, fit-scanned, out-scanned, shifted-scanned}
use Rattle.sector.proofs.scan.scan_sector.Goals as goal

pub returns-then-stored-gt512 : goal.returns-then-stored-gt512
returns-then-stored-gt512 c =
    let a = c.args in
    let refused = c.then-stored-gt512.either in
    record { value = c.blank.ensures ∙ fit-refused _ _ a.out.now refused; out_after = out-refused _ _ _ refused }

pub returns : goal.returns
unfolding sector_of
returns c =
    let a = c.args in
    let f = c.fit_of-fit in
    let h : length a.stored.now ≤ 512 = omega arith in
    let e : length a.out.now ≡ length a.stored.now = omega arith in
    record {
      value = f.ensures ∙ sym (fit-scanned a.offset a.stored.now a.out.now h e);
      out_after = c.write_shifted.ensures
          ∙ shifted-scanned a.offset a.stored.now f.result.step _ h (f.auto.room ∙ e)
          ∙ ap (λ (r : Fit). shifted_list a.offset r.step a.stored.now) f.ensures
          ∙ sym (out-scanned a.offset a.stored.now a.out.now h e);
    }
