-- `write_hex` meets its contract: all digits or none.
use Rattle.std.proofs.Common.{◌∙◌, rules}
use Rattle.digits.proofs.Spelling.{hex-no, hex-yes}
use Rattle.digits.proofs.writing.write_hex.Goals as goal

pub returns-then-out-n : goal.returns-then-out-n
returns-then-out-n c =
    let e = hex-no c.args.bytes.now c.args.out.now (search rules) in
    record { value = e.0; out_after = e.1 }

pub returns : goal.returns
returns c =
    let a = c.args in
    let e = hex-yes a.bytes.now a.out.now (search rules) in
    record { value = e.0; out_after = c.put_digits.ensures ∙ e.1 }
