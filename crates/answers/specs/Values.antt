-- Where values stand that a number carries: the first four of a list, and how many there are. Assumes nothing.
use Rattle.std.specs.Prelude.{ℕ, List, length, get_or}
use Rattle.answers.specs.declared.values.Values.{Values}

abbrev pub placed : List ℕ → Values
placed l = record { count = length l; first = get_or l 0 0; second = get_or l 1 0; third = get_or l 2 0; fourth = get_or l 3 0 }
