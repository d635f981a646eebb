-- `scan_sector` meets its contract: the table of the modal counts gives the fit; a sector of another length has the histograms of `sector`, with the same contract.
use Prim.Native.Nat.{ℕ, ◌≤◌}
use mathlib.Core.Path.{◌≡◌, sym, ap, ◌∙◌}
use mathlib.Core.List.{List}
use native.Mathlib.Omega.{arith}
use lib.ListN.{length}
use Rattle.sector.specs.Fit.{shifted_list, table_fit, fit_of, sector_of}
use Rattle.sector.specs.declared.fits.Fit.{Fit}
use Rattle.sector.proofs.Scans.{fit-scanned, out-scanned, shifted-scanned}
use Rattle.sector.proofs.StepSearch.{table-fit}
use Rattle.classes.proofs.scan.scan_sector.Goals as goal

pub returns : goal.returns
unfolding sector_of
returns c =
    let a = c.args in
    let l : List ℕ = a.stored.now in
    let h : length l ≤ 512 = omega arith in
    let e : length a.out.now ≡ length l = omega arith in
    let found = c.table_fit-fit in
    let fit : found.result ≡ fit_of a.offset l =
    found.ensures ∙ ap (λ (counts : List ℕ). table_fit counts (length l)) c.modal_counts-counts.ensures ∙ table-fit a.offset l in
    record {
      value = fit ∙ sym (fit-scanned a.offset l a.out.now h e);
      out_after = c.write_shifted.ensures
          ∙ shifted-scanned a.offset l found.result.step _ h (c.modal_counts-counts.auto.room ∙ e)
          ∙ ap (λ (f : Fit). shifted_list a.offset f.step l) fit
          ∙ sym (out-scanned a.offset l a.out.now h e);
    }
