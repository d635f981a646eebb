-- Document 01, "The program": the line that `report` writes for a decoding. Assumes nothing.
use Rattle.std.specs.Prelude.{ℕ, ◌+◌, ◌%◌, Result, Ok, Err, List, [], ◌∷◌, ◌++◌, leb, length}
use Rattle.lists.specs.Cases.{pick, flag}
use Rattle.lists.specs.Pieces.{joined, over}
use Rattle.numbers.specs.Numbers.{big_bytes}
use Rattle.digits.specs.Digits.{hexed}
use Rattle.answers.specs.Answers.{number_of}
use Rattle.answers.specs.Trust.{source_number, confidence_number}
use Rattle.sector.specs.declared.fits.Fit.{Fit}
use Rattle.choice.specs.Rules.{refused_answer}
use Rattle.choice.specs.declared.Refused.{Refused}
use Rattle.verdict.specs.Sectors.{entry}
use Rattle.verdict.specs.declared.Decoding.{Decoding}

-- the longest report's bytes, and its line's characters
abbrev pub report_most : ℕ
report_most = 77

abbrev pub reply_most : ℕ
reply_most = report_most + report_most + 1

-- "step, peak, runner-up (2 bytes each), exact"; document 02, #106: "two bytes after each exact mark", how many steps tied
unfoldable pub fit_report : Fit → List ℕ
fit_report f = f.step ∷ (big_bytes 2 f.peak ++ (big_bytes 2 f.runner_up ++ (flag f.exact ∷ big_bytes 2 f.tied)))

abbrev pub fit_reports : List Fit → ℕ → List ℕ
fit_reports fits n = joined (λ s. fit_report (entry fits s)) n

-- "source, confidence, bv or 00, eight times step, .., then the number of warnings (a byte)"
unfoldable pub accepted_bytes : Decoding → List ℕ
accepted_bytes d =
    source_number d.choice.source ∷ confidence_number d.choice.confidence ∷ d.choice.bv
    ∷ (fit_reports d.fits 8 ++ (d.warnings.len % 256 ∷ []))

-- "answer, page number, and if accepted" the rest
abbrev pub told_bytes : Result Decoding Refused → List ℕ
told_bytes (Ok d) = accepted_bytes d
told_bytes (Err e) = []

unfoldable pub report_bytes : ℕ → Result Decoding Refused → List ℕ
report_bytes number found = number_of (refused_answer found) ∷ (big_bytes 8 number ++ told_bytes found)

-- what `put_report` writes into a buffer, and how much: the whole report, or nothing where the longest does not fit
unfoldable pub reported_into : ℕ → Result Decoding Refused → List ℕ → List ℕ
reported_into number found bytes = pick (leb report_most (length bytes)) (over bytes 0 (report_bytes number found)) bytes

unfoldable pub reported_number : ℕ → Result Decoding Refused → List ℕ → ℕ
reported_number number found bytes = pick (leb report_most (length bytes)) (length (report_bytes number found)) 0

-- "It writes lower case"; every line ends with a newline
unfoldable pub line_of : List ℕ → List ℕ
line_of bytes = hexed bytes ++ (10 ∷ [])

abbrev pub report_line : ℕ → Result Decoding Refused → List ℕ
report_line number found = line_of (report_bytes number found)
