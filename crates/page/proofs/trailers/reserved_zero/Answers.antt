-- `page::trailers::reserved_zero` meets its contract: byte 3, then bytes 8 to 11 as one number. Assumes nothing.
use Rattle.std.proofs.Common.{sym, ne_eqb}
use Rattle.page.proofs.Trailer.{reserved-third, reserved-others}
use Rattle.page.proofs.trailers.reserved_zero.Goals as goal

pub returns-then-stored-eq0 : goal.returns-then-stored-eq0
returns-then-stored-eq0 c = rw c.quad.ensures (reserved-others _ c.if-stored-eq0.true)

pub returns-else-stored-eq0 : goal.returns-else-stored-eq0
returns-else-stored-eq0 c = rw (ne_eqb _ _ c.if-stored-eq0.false) (sym (reserved-third _ c.if-stored-eq0.false))
