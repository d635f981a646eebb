-- `lower_digit` meets its contract: a case for each arm of the rule.
use Rattle.std.proofs.Common.{arith, le-ltb, lt-ltb}
use Rattle.digits.proofs.writing.lower_digit.Goals as goal

pub returns-then-value-lt10 : goal.returns-then-value-lt10
returns-then-value-lt10 c =
    rw (lt-ltb _ _ c.if-value-lt10.true)

pub returns-else-value-lt10 : goal.returns-else-value-lt10
returns-else-value-lt10 c = rw (le-ltb _ _ c.if-value-lt10.false) (omega arith)
