-- What the meanings of a choice speak of: for the shifted bytes of a page, and a value v of bv. Assumes nothing.
use Rattle.std.specs.Prelude.{ℕ, ◌*◌, Bool, ◌&&◌, not, List, eqb}
use Rattle.lists.specs.Bytes.{byte_at, plain_of}
use Rattle.lists.specs.Counts.{count, how_many, all_same}
use Rattle.summary.specs.Page.{part}
use Rattle.votes.specs.Votes.{counts_of, ballots, is_candidate}

-- "An exact sector votes for its shifted value": whether sector s is exact, and its value
abbrev pub is_exact : List ℕ → ℕ → Bool
is_exact shifted s = all_same (part s shifted)

abbrev pub exact_value : List ℕ → ℕ → ℕ
exact_value shifted s = byte_at shifted (s * 512)

-- how many sectors are exact; how many of them vote for v, and how many do not
unfoldable pub exact_sectors : List ℕ → ℕ
exact_sectors shifted = how_many (is_exact shifted) 8

unfoldable pub votes_for : List ℕ → ℕ → ℕ
votes_for shifted v = how_many (λ s. is_exact shifted s && eqb (exact_value shifted s) v) 8

unfoldable pub dissent_from : List ℕ → ℕ → ℕ
dissent_from shifted v = how_many (λ s. is_exact shifted s && not (eqb (exact_value shifted s) v)) 8

-- how many data bytes are zero when the page is written with v
unfoldable pub zeros_with : List ℕ → ℕ → ℕ
zeros_with shifted v = count 0 (plain_of v shifted)

-- "Candidates: all voted values and the four commonest values that occur"
unfoldable pub stands_for : List ℕ → ℕ → Bool
stands_for shifted v = is_candidate (counts_of shifted) (counts_of (ballots shifted)) v
