-- `line_at` meets its contract: the place may be reduced before it is multiplied.
use Rattle.std.proofs.Common.{◌≡◌, ℕ, ◌+◌, ◌*◌, ◌%◌, arith}
use Rattle.sector.proofs.Bytes.{mul-mod}
use Rattle.quick.proofs.line.line_at.Goals as goal

sum-mod : (x p q : ℕ) → q ≡ p % 256 → (x + q) % 256 ≡ (x + p) % 256
sum-mod x p q e = omega arith

pub returns : goal.returns
returns c =
    let a = c.args in
    sum-mod a.first (a.i * a.step) _ (mul-mod a.i a.step)
