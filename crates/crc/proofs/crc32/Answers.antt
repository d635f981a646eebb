-- `crc32`: the complement of the register is the sequence of V.42 (`crc-is-register`).
use mathlib.Core.Path.{sym, ap, ◌∙◌}
use Prim.Native.Nat.{ℕ, ◌-◌, ◌^◌}
use Rattle.checksum.proofs.Definition.{crc-is-register}
use Rattle.crc.proofs.crc32.Goals as goal

pub returns : goal.returns
returns c = ap (λ (x : ℕ). (2 ^ 32 - 1) - x) c.after_all.ensures ∙ sym (crc-is-register c.args.bytes.now)
