-- `octet_at`: an octet is below 256.
use Rattle.std.proofs.Common.{arith}
use Rattle.crc.proofs.register.octet_at.Goals as goal

pub returns : goal.returns
returns c = (c.from.ensures, omega (arith, c.from.ensures))
