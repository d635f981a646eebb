-- The loop's invariant: the first i bytes are plain. Assumes nothing.
use Rattle.std.proofs.Common.{◌≡◌, take}
use Rattle.lists.specs.Bytes.{plain_of}
use Rattle.decode.proofs.plaintext.unshift.Given as goal

abbrev pub invariant-loop-i : goal.invariant-loop-i
invariant-loop-i l = take l.i l.out ≡ plain_of l.bv (take l.i l.shifted)
