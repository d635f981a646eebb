-- `sixty_four_steps`: the shifts and the steps are linear and agree at every power of 2 (`shifts-steps`).
use Rattle.checksum.proofs.Linear.{shifts-steps, shifts-lt}
use Rattle.crc.proofs.register.sixty_four_steps.Goals as goal

pub overflow_cast-result : goal.overflow_cast-result
overflow_cast-result c = record { fits = shifts-lt c.args.w c.ranges.w.fits }

pub returns : goal.returns
returns c = shifts-steps c.args.w c.ranges.w.fits
