-- `put_zeros` meets its contract: the part of the buffer at the place is filled.
use Rattle.std.proofs.Common.{rules, ◌≡◌, ℕ, replicate}
use native.Mathlib.Omega.{arith}
use lib.ListN.{length-replicate}
use Rattle.numbers.proofs.Stored.{wrote-not, wrote-over}
use Rattle.numbers.proofs.Copies.{over-part}
use Rattle.numbers.proofs.bytes.put_zeros.Goals as goal

pub returns-in_default : goal.returns-in_default
returns-in_default c = wrote-not (omega (arith, length-replicate {A = ℕ}, c.in_default.ensures))

pub returns : goal.returns
returns c =
    let e = c.in-Some.ensures in
    let filled : c.fill.new.self ≡ replicate c.args.n 0 = search rules in
    wrote-over (omega (arith, length-replicate {A = ℕ} c.args.n 0)) (over-part _ _ _ _ _ filled (omega (arith, length-replicate {A = ℕ} c.args.n 0)))
    (omega (arith, length-replicate {A = ℕ} c.args.n 0))
