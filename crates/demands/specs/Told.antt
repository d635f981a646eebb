-- What an answer tells: the table of answers, for each entry the lines that it can give. Assumes nothing.
use Rattle.std.specs.Prelude.{ℕ, ◌+◌, ◌*◌, ◌≡◌, Bool, false, ◌&&◌, Option, Some, None, List, [], ◌∷◌, ◌++◌, eqb, ltb, length}
use Rattle.lists.specs.Cases.{pick}
use Rattle.answers.specs.Answers.{Answer, number_of, values_of}
use Rattle.sector.specs.declared.fits.Fit.{Fit}
use Rattle.page.specs.Trailer.{row_count_of, stored_crc}
use Rattle.page.specs.Integrity.{computed_crc}
use Rattle.page.specs.Superblock.{magic_of}
use Rattle.slots.specs.Slots.{scanned_directory}
use Rattle.slots.specs.declared.scans.Scan.{Scan}
use Rattle.preludes.specs.Preludes.{prelude_of}
use Rattle.preludes.specs.declared.search.Prelude.{Prelude}
use Rattle.preludes.specs.declared.search.Prelude.TheVariants as prelude
use Rattle.directory.specs.Directory.{inside_of}
use Rattle.directory.specs.Decisions.{listed_of, found_of}
use Rattle.directory.specs.declared.verdicts.Listed.{Listed}
use Rattle.rows.specs.Rows.{head_or}
use Rattle.votes.specs.Votes.{counts_of, top_of}
use Rattle.verdict.specs.Sectors.{entry, refit_of, first_weak}

-- a line of the table: a number, and the values that it returns
infix 70 ◌returns◌
pub data Line : Type 0 where
  ◌returns◌ : ℕ → List ℕ → Line

-- the values in the lines that have a number
unfoldable pub values_at : ℕ → List Line → List (List ℕ)
values_at k [] = []
values_at k (n returns values ∷ l) = pick (eqb k n) (values ∷ values_at k l) (values_at k l)

-- an answer stands in a table: one line has its number, and that line has its values
pub record OneOf (lines : List Line) (x : Answer) : Type 0 where
  pub is : values_at (number_of x) lines ≡ values_of x ∷ []

-- ---- pages. "1: length; 3: page, stored, computed; 4: page; 13: magic"

abbrev pub length_lines : List ℕ → List Line
length_lines stored = 0 returns [] ∷ 1 returns (length stored ∷ []) ∷ []

abbrev pub integrity_lines : ℕ → List ℕ → List Line
integrity_lines number stored = length_lines stored ++ (3 returns (number ∷ stored_crc stored ∷ computed_crc stored ∷ []) ∷ 4 returns (number ∷ []) ∷ [])

abbrev pub magic_lines : List ℕ → List Line
magic_lines stored = length_lines stored ++ (13 returns (magic_of stored ∷ []) ∷ [])

-- ---- summaries, for a page of n bytes and a buffer of m. "2: the first wrong length; 14: sector"

abbrev pub scan_lines : ℕ → ℕ → List Line
scan_lines n m = 0 returns [] ∷ 1 returns (n ∷ []) ∷ 2 returns (m ∷ []) ∷ []

abbrev pub replacement_lines : ℕ → ℕ → ℕ → List Line
replacement_lines s n m = scan_lines n m ++ (14 returns (s ∷ []) ∷ [])

-- ---- the search limit lim. "20, with the limit, if it is outside the range": the line beside those at a limit within it

abbrev pub or_limit : ℕ → List Line → List Line
or_limit lim within = 20 returns (lim ∷ []) ∷ within

-- ---- slots and rows of a plain page

-- "8: reason: 1 n from 1 to 3; 2 fewer than 8 live; 3 unconfirmed"
abbrev pub live_in : Option Scan → ℕ
live_in (Some d) = d.live
live_in None = 0

abbrev pub is_few : ℕ → Bool
is_few n = ltb 0 n && ltb n 4

unfoldable pub reason_at : ℕ → List ℕ → ℕ
reason_at lim plain = pick (is_few (row_count_of plain)) 1 (pick (ltb (live_in (scanned_directory lim plain)) 8) 2 3)

-- "10: found, expected, stop": of the prelude that breaks off
abbrev pub found_in : Prelude → ℕ
found_in (prelude.Truncated found stop) = found
found_in prelude.Missing = 0
found_in (prelude.One start) = 0
found_in prelude.Several = 0

abbrev pub stop_in : Prelude → ℕ
stop_in (prelude.Truncated found stop) = stop
stop_in prelude.Missing = 0
stop_in (prelude.One start) = 0
stop_in prelude.Several = 0

abbrev pub prelude_at : ℕ → List ℕ → Prelude
prelude_at lim plain = prelude_of lim plain (row_count_of plain)

-- "12: offset, directory end": the first in slot order that lies inside the directory
abbrev pub listed_at : ℕ → List ℕ → Option Listed
listed_at lim plain = listed_of (found_of lim plain (row_count_of plain) false)

abbrev pub offset_in : List ℕ → Option Listed → ℕ
offset_in plain (Some l) = head_or 0 (inside_of plain l.start l.count)
offset_in plain None = 0

abbrev pub end_in : Option Listed → ℕ
end_in (Some l) = l.start + 2 * l.count
end_in None = 0

unfoldable pub offset_at : ℕ → List ℕ → ℕ
offset_at lim plain = offset_in plain (listed_at lim plain)

unfoldable pub end_at : ℕ → List ℕ → ℕ
end_at lim plain = end_in (listed_at lim plain)

abbrev pub parse_within : ℕ → ℕ → List ℕ → List Line
parse_within lim number plain =
    0 returns []
    ∷ 1 returns (length plain ∷ [])
    ∷ 8 returns (number ∷ reason_at lim plain ∷ [])
    ∷ 9 returns (number ∷ [])
    ∷ 10 returns (number ∷ found_in (prelude_at lim plain) ∷ row_count_of plain ∷ stop_in (prelude_at lim plain) ∷ [])
    ∷ 11 returns (number ∷ [])
    ∷ 12 returns (number ∷ offset_at lim plain ∷ end_at lim plain ∷ [])
    ∷ []

abbrev pub parse_lines : ℕ → ℕ → List ℕ → List Line
parse_lines lim number plain = or_limit lim (parse_within lim number plain)

-- "16: row number"
abbrev pub row_lines : ℕ → ℕ → List ℕ → ℕ → List Line
row_lines lim number plain r = parse_lines lim number plain ++ (16 returns (r ∷ []) ∷ [])

-- ---- choices, for the shifted bytes. "5: page, candidates", which stand beside it; "6: page, bv"

abbrev pub choice_within : ℕ → List ℕ → List Line
choice_within number shifted =
    0 returns []
    ∷ 2 returns (length shifted ∷ [])
    ∷ 5 returns (number ∷ [])
    ∷ 6 returns (number ∷ top_of (counts_of shifted) ∷ [])
    ∷ []

abbrev pub choice_lines : ℕ → ℕ → List ℕ → List Line
choice_lines lim number shifted = or_limit lim (choice_within number shifted)

abbrev pub support_within : ℕ → ℕ → List ℕ → List Line
support_within number bv shifted = 0 returns [] ∷ 2 returns (length shifted ∷ []) ∷ 6 returns (number ∷ bv ∷ []) ∷ []

abbrev pub support_lines : ℕ → ℕ → ℕ → List ℕ → List Line
support_lines lim number bv shifted = or_limit lim (support_within number bv shifted)

-- ---- decodings

-- "7: page, sector, peak, runner-up": the first sector that is not confident
abbrev pub weak_values : ℕ → List Fit → List ℕ
weak_values number fits = number ∷ first_weak fits ∷ (entry fits (first_weak fits)).peak ∷ (entry fits (first_weak fits)).runner_up ∷ []

-- of a page that was written and whose integrity does not refuse
abbrev pub verdict_lines : ℕ → ℕ → List Fit → List ℕ → List Line
verdict_lines lim number fits shifted = 7 returns weak_values number (refit_of fits shifted) ∷ choice_lines lim number shifted

abbrev pub supplied_verdict_lines : ℕ → ℕ → ℕ → List Fit → List ℕ → List Line
supplied_verdict_lines lim number bv fits shifted = 7 returns weak_values number (refit_of fits shifted) ∷ support_lines lim number bv shifted

-- "2: out not 4,096, then shifted not 4,080": for an out of m bytes, and k shifted ones
abbrev pub first_wrong : ℕ → ℕ → ℕ
first_wrong m k = pick (eqb m 4096) k m

abbrev pub decoding_within : ℕ → List ℕ → List Fit → List ℕ → ℕ → List Line
decoding_within number stored fits shifted m =
    integrity_lines number stored
    ++ (2 returns (first_wrong m (length shifted) ∷ [])
    ∷ 5 returns (number ∷ [])
    ∷ 6 returns (number ∷ top_of (counts_of shifted) ∷ [])
    ∷ 7 returns weak_values number (refit_of fits shifted)
    ∷ [])

abbrev pub decoding_lines : ℕ → ℕ → List ℕ → List Fit → List ℕ → ℕ → List Line
decoding_lines lim number stored fits shifted m = or_limit lim (decoding_within number stored fits shifted m)

abbrev pub supplied_within : ℕ → ℕ → List ℕ → List Fit → List ℕ → ℕ → List Line
supplied_within number bv stored fits shifted m =
    length_lines stored
    ++ (2 returns (first_wrong m (length shifted) ∷ []) ∷ 6 returns (number ∷ bv ∷ []) ∷ 7 returns weak_values number (refit_of fits shifted) ∷ [])

abbrev pub supplied_lines : ℕ → ℕ → ℕ → List ℕ → List Fit → List ℕ → ℕ → List Line
supplied_lines lim number bv stored fits shifted m = or_limit lim (supplied_within number bv stored fits shifted m)
