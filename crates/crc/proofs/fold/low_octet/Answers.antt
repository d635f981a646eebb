-- `low_octet`: a mask of eight bits is the number modulo 256.
use lib.Bits.{and_mask, mask_lt}
use Rattle.crc.proofs.fold.low_octet.Goals as goal

pub overflow_cast-result : goal.overflow_cast-result
overflow_cast-result c = record { fits = mask_lt c.args.x 8 }

pub returns : goal.returns
returns c = and_mask c.args.x 8
