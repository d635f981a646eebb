-- `after_word`: the contracts of its callees, put together.
use mathlib.Core.Path.{ap₂, ◌∙◌}
use Prim.Native.Nat.{ℕ}
use lib.Bits.{bit_xor}
use Rattle.checksum.specs.Register.{steps}
use Rattle.crc.proofs.register.after_word.Goals as goal

pub returns : goal.returns
returns c = c.sixty_four_steps.ensures ∙ ap₂ (λ (x y : ℕ). steps 64 (bit_xor x (bit_xor c.args.word y))) c.word_at.ensures c.from.ensures
