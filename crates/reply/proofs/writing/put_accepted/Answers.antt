-- `put_accepted` meets its contract: one part behind the other.
use borrow.Author.Rules.{rules}
use Rattle.std.proofs.Common.{ℕ, ◌%◌, List, refl, set, ap, ◌∙◌}
use Rattle.reply.proofs.Reports.{accepted-put}
use Rattle.reply.proofs.writing.put_accepted.Goals as goal

pub returns : goal.returns
returns c =
    let a = c.args in
    ap (λ (w : List ℕ). set w 76 (a.d.warnings.len % 256)) c.put_fits.ensures
    ∙ accepted-put a.d a.bytes.now c.number.result c.number-2.result (a.d.warnings.len % 256) (search rules) c.number.ensures c.number-2.ensures refl
