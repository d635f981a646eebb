-- `after_octet`: eight steps are eight calls of `one_step`.
use mathlib.Core.Path.{ap, ◌∙◌}
use Prim.Native.Nat.{ℕ}
use lib.Bits.{bit_xor}
use Rattle.checksum.specs.Register.{step, steps}
use Rattle.crc.proofs.register.after_octet.Goals as goal

pub returns : goal.returns
unfolding steps
returns c =
    c.one_step-8.ensures
    ∙ ap step
    (c.one_step-7.ensures
    ∙ ap step
    (c.one_step-6.ensures
    ∙ ap step
    (c.one_step-5.ensures
    ∙ ap step
    (c.one_step-4.ensures
    ∙ ap step
    (c.one_step-3.ensures
    ∙ ap step (c.one_step-2.ensures
    ∙ ap step c.one_step.ensures))))))
    ∙ ap (λ (o : ℕ). steps 8 (bit_xor c.args.start o)) c.from.ensures
