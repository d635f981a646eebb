-- The loop's invariant: the first i bytes are plain. Assumes nothing.
use Rattle.std.proofs.Common.{ℕ, ◌++◌, [], ◌∷◌, take, ap, ◌∙◌, arith}
use Rattle.lists.specs.Bytes.{plain_of}
use Rattle.lists.proofs.Filled.{write-more}
use Rattle.lists.proofs.Plain.{plain-none, plain_more}
use Rattle.decode.proofs.plaintext.unshift.Goals as goal

pub loop-i-init : goal.loop-i-init
loop-i-init c = plain-none c.args.bv c.args.shifted.now

pub loop-i-preserved : goal.loop-i-preserved
loop-i-preserved c =
    let a = c.args in
    let l = c.loop-i in
    let bytes = a.shifted.now in
    write-more l.out (plain_of a.bv (take l.i bytes)) l.i _ (omega arith) l.invariant
    ∙ ap (λ (y : ℕ). plain_of a.bv (take l.i bytes) ++ (y ∷ [])) (omega arith)
    ∙ plain_more a.bv bytes l.i (omega arith)
