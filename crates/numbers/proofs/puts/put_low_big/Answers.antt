-- `put_low_big` meets its contract: the last bytes of eight, the greatest first, are the last of the number.
use Rattle.std.proofs.Common.{◌∙◌, ap, take, drop, ◌≡◌, ◌-◌}
use native.Mathlib.Omega.{arith}
use lib.ListN.{length, length-drop}
use lib.Seq.{take_all}
use Rattle.numbers.proofs.Widths.{low_big}
use Rattle.numbers.proofs.Stored.{wrote-same}
use Rattle.numbers.proofs.puts.put_low_big.Goals as goal

pub returns : goal.returns
returns g c =
    let n = g.row.N in
    let all : take (8 - (8 - n)) (drop (8 - n) c.to_be_bytes.result) ≡ drop (8 - n) c.to_be_bytes.result =
    take_all _ _ (omega (arith, length-drop (8 - n) c.to_be_bytes.result, ap length c.to_be_bytes.ensures)) in
    wrote-same (all ∙ ap (drop (8 - n)) c.to_be_bytes.ensures ∙ low_big _ _ c.requires) c.put_bytes.ensures
