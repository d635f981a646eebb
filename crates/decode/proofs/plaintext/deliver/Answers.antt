-- The two parts that are written make the plain page. Assumes nothing.
use Rattle.std.proofs.Common.{List, ℕ, ◌++◌, length, ap, ◌∙◌, ap₂, rules}
use Rattle.lists.proofs.Plain.{plain-length}
use Rattle.lists.proofs.Filled.{put_both, part_to_end}
use Rattle.numbers.proofs.Copies.{copied-same}
use Rattle.decode.proofs.plaintext.deliver.Goals as goal

pub returns : goal.returns
returns c =
    let u = c.unshift in
    let t = c.copy in
    let long = ap length u.ensures ∙ plain-length c.args.bv c.args.shifted.now ∙ c.requires.2 in
    put_both u.new.out t.new.out _ 4080 long
    ∙ ap₂ (λ (l m : List ℕ). l ++ m) u.ensures (t.ensures ∙ copied-same _ _ (search rules) ∙ part_to_end c.args.stored.now 4080)
