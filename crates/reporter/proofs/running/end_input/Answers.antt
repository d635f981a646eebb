-- `end_input` meets its contract: what the end of input put out is counted, if it was written.
use Rattle.std.proofs.Common.{ap, ◌∙◌}
use Rattle.std.proofs.lemmas.Result.{IfOk-weaker}
use lib.Seq.{length-take-le}
use Rattle.lines.specs.Runs.{sent_count}
use Rattle.lines.proofs.Runs.{last-count}
use Rattle.reporter.proofs.running.end_input.Goals as goal

pub returns : goal.returns
returns g c = let f = c.finish-n in IfOk-weaker c.put.result _ _ (λ x e. last-count _ f.result _ _ _ f.ensures.upper_bound f.ensures.out_after (e ∙ ap (sent_count c.args.sent) (length-take-le f.result f.new.out f.ensures.upper_bound))) c.put.ensures
