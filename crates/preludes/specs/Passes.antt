-- private: no part of the rules. What a search for the next field that holds n passes over changes nothing. Assumes nothing.
use Rattle.std.specs.Prelude.{ℕ, ◌≤◌, ◌<◌, ◌≡◌, List}
use Rattle.lists.specs.Bytes.{pair_at}
use Rattle.preludes.specs.Preludes.{prelude_of}

-- from one field to another, no further than `end`
pub record Passed (plain : List ℕ) (n from end field : ℕ) : Type 0 where
  pub on : from ≤ field
  pub within : field ≤ end
  pub same : prelude_of field plain n ≡ prelude_of from plain n

-- to one that holds n, or to the end
pub record NextField (plain : List ℕ) (n from end field : ℕ) : Type 0 where
  pub passed : Passed plain n from end field
  pub holds : field < end → pair_at plain field ≡ n
