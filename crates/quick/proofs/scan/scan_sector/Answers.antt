-- `scan_sector` meets its contract: where no byte breaks the line its fit and its bytes are known, and else the count by classes has the same contract.
use Rattle.std.proofs.Common.{◌≡◌, ℕ, ◌≤◌, length, replicate, sym, ap, ◌∙◌, ap₂, arith}
use Rattle.sector.proofs.Scans.{fit-scanned, out-scanned}
use Rattle.quick.specs.Line.{break_at, exact_fit}
use Rattle.quick.proofs.Exact.{break-le}
use Rattle.quick.proofs.Fits.{unbroken-fit, unbroken-sector}
use Rattle.quick.proofs.scan.scan_sector.Goals as goal

pub returns : goal.returns
returns c =
    let a = c.args in
    let l = a.stored.now in
    let h : length l ≤ 512 = omega arith in
    let e : length a.out.now ≡ length l = omega arith in
    let two : 2 ≤ length l = omega arith in
    let whole : break_at l ≡ length l = omega (arith, break-le l) in
    record {
      value = c.exact_fit.ensures
          ∙ ap (λ (k : ℕ). exact_fit k (length l)) c.first_step.ensures
          ∙ sym (unbroken-fit a.offset l whole two)
          ∙ sym (fit-scanned a.offset l a.out.now h e);
      out_after = c.fill.ensures.after (λ x e. e)
          ∙ ap₂ (λ (n x : ℕ). replicate n x) e (omega arith)
          ∙ sym (unbroken-sector a.offset l whole two)
          ∙ sym (out-scanned a.offset l a.out.now h e);
    }
