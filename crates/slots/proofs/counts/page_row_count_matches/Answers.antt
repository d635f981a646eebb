-- `page_row_count_matches` meets its contract: a plain page is the case bv = 0.
use Rattle.std.proofs.Common.{◌≡◌, sym, refl, ◌∙◌, arith}
use Rattle.lists.specs.Bytes.{plain_of}
use Rattle.slots.proofs.RowCounts.{page-short, page-out, page-tested}
use Rattle.slots.proofs.Pages.{plain-zero}
use Rattle.slots.proofs.counts.page_row_count_matches.Goals as goal

pub returns-then-plain-ne4096 : goal.returns-then-plain-ne4096
returns-then-plain-ne4096 c = page-short _ _ _ c.if-plain-ne4096.true

pub returns-then-not-limit_fits : goal.returns-then-not-limit_fits
returns-then-not-limit_fits c = page-out _ _ _ c.if-plain-ne4096.false (sym c.limit_fits.ensures ∙ c.if-not-limit_fits.true)

pub returns : goal.returns
returns c =
    let a = c.args in
    let z : plain_of 0 a.plain.now ≡ a.plain.now = plain-zero a.plain.now (λ i h. omega (arith, c.type_inv.plain i)) in
    page-tested a.limit a.plain.now a.t _ c.trailer_row_count_matches.result c.if-plain-ne4096.false (sym c.limit_fits.ensures ∙ c.if-not-limit_fits.false) refl
    (rw z at c.trailer_row_count_matches.ensures)
