-- `put_found` meets its contract: its fields, and the slots behind them.
use mathlib.Core.Bool.{true}
use native.Mathlib.Omega.{arith}
use Rattle.fields.proofs.Puts.{layout-short}
use Rattle.parse_layout.proofs.Sizes.{found-size}
use Rattle.parse_layout.proofs.Wholes.{found-written}
use Rattle.parse_layout.proofs.put_found.Goals as goal

pub returns-then-out-lt-DIRECTORY_SIZE : goal.returns-then-out-lt-DIRECTORY_SIZE
returns-then-out-lt-DIRECTORY_SIZE c =
    layout-short _ (found-size _ _ _) (omega arith)

pub returns-then-out-at : goal.returns-then-out-at
returns-then-out-at c =
    layout-short _ (found-size _ _ _) (omega arith)

pub returns : goal.returns
returns c =
    let a = c.args in
    found-written a.plain.now true a.l c.requires.0 c.requires.1 (λ i. omega (arith, c.type_inv.plain i))
    c.put_listed-at.ensures c.put_slots.ensures (omega arith)
