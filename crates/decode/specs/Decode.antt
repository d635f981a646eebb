-- Document 01, "Answer numbers" and "Summary and replacement", and request #109: a decoding, in the order 1, 2, 20, unallocated, and then what is
-- decided of a written page; and what it writes. `stored` is the stored page, `fits` and `shifted` its summary, m the length of out. Assumes nothing.
use Rattle.std.specs.Prelude.{ℕ, Bool, List, ◌++◌, length, drop, ◌==◌, Some, None, Result, Ok, Err}
use Rattle.lists.specs.Cases.{pick}
use Rattle.lists.specs.Bytes.{plain_of}
use Rattle.answers.specs.Answers.{Answer}
use Rattle.answers.specs.Settings.{limit_fits}
use Rattle.answers.specs.declared.kinds.Refusal.{Refusal}
use Rattle.answers.specs.declared.kinds.Refusal.TheVariants.{WrongPageLength, WrongBufferLength, LimitOutOfRange}
use Rattle.answers.specs.declared.settings.Options.{Options}
use Rattle.sector.specs.declared.fits.Fit.{Fit}
use Rattle.page.specs.Trailer.{row_count_of}
use Rattle.page.specs.Integrity.{is_unallocated}
use Rattle.summary.specs.Page.{fits_of, bytes_of}
use Rattle.choice.specs.declared.Refused.{Refused}
use Rattle.choice.specs.Rules.{unless_refused}
use Rattle.verdict.specs.declared.Decoding.{Decoding}
use Rattle.verdict.specs.Verdict.{unallocated_of, verdict_of, supplied_verdict}

-- "1: stored page not 4,096 bytes; 2: out not 4,096, then shifted not 4,080", of the lengths n, m and k; and of the search limit "20, with the limit,
-- if it is outside the range, after the lengths"
unfoldable pub entry_answer : ℕ → ℕ → ℕ → ℕ → Answer
entry_answer n m k lim =
    pick (n == 4096)
    (pick (m == 4096)
    (pick (k == 4080) (pick (limit_fits lim) None (Some (LimitOutOfRange lim))) (Some (WrongBufferLength k)))
    (Some (WrongBufferLength m)))
    (Some (WrongPageLength n))

-- "before the unallocated answer": where lengths and limit are right, the unallocated page, else d
unfoldable pub entry_checked : List ℕ → List ℕ → ℕ → ℕ → Result Decoding Refused → Result Decoding Refused
entry_checked stored shifted m lim d =
    unless_refused (entry_answer (length stored) m (length shifted) lim) (pick (is_unallocated stored) (Ok unallocated_of) d)

-- private: what is answered before anything is decided. A refusal by lengths and limit, or whether the page is unallocated
abbrev pub early_by : Answer → Bool → Result Bool Refusal
early_by None zeros = Ok zeros
early_by (Some x) zeros = Err x

unfoldable pub early_of : List ℕ → ℕ → ℕ → ℕ → Result Bool Refusal
early_of stored m k lim = early_by (entry_answer (length stored) m k lim) (is_unallocated stored)

-- private: and what out holds then, the zeros of that page
abbrev pub early_written : Result Bool Refusal → List ℕ → List ℕ → List ℕ
early_written (Ok zeros) stored out = pick zeros stored out
early_written (Err x) stored out = out

-- a decoding from a summary
unfoldable pub decoding_of : ℕ → List ℕ → List Fit → List ℕ → List ℕ → Options → ℕ → Result Decoding Refused
decoding_of number stored fits shifted anchors o m = entry_checked stored shifted m o.search_limit (verdict_of number stored fits shifted anchors o)

-- and that for a buffer `out`
abbrev pub decoding_into : ℕ → List ℕ → List Fit → List ℕ → List ℕ → Options → List ℕ → Result Decoding Refused
decoding_into number stored fits shifted anchors o out = decoding_of number stored fits shifted anchors o (length out)

-- the same with a bv that is supplied
unfoldable pub supplied_decoding_of : ℕ → ℕ → List ℕ → List Fit → List ℕ → Options → ℕ → Result Decoding Refused
supplied_decoding_of number bv stored fits shifted o m =
    entry_checked stored shifted m o.search_limit (supplied_verdict number bv (row_count_of stored) fits shifted o)

-- "Plaintext data = shifted - bv modulo 256; the trailer is copied"
abbrev pub plain_page : ℕ → List ℕ → List ℕ → List ℕ
plain_page bv shifted stored = plain_of bv shifted ++ drop 4080 stored

-- what out holds at the end: the plain page, or the zeros of an unallocated one; a refusal leaves it as it was
unfoldable pub written_of : Result Decoding Refused → List ℕ → List ℕ → List ℕ → List ℕ
written_of (Ok d) stored shifted out = pick (is_unallocated stored) stored (plain_page d.choice.bv shifted stored)
written_of (Err e) stored shifted out = out

-- private: the same of a page that was written
abbrev pub delivered_of : Result Decoding Refused → List ℕ → List ℕ → List ℕ → List ℕ
delivered_of (Ok d) stored shifted out = plain_page d.choice.bv shifted stored
delivered_of (Err e) stored shifted out = out

-- by its own scan: from the page's own summary
abbrev pub own_decoding : ℕ → List ℕ → List ℕ → Options → ℕ → Result Decoding Refused
own_decoding number stored anchors o m = decoding_of number stored (fits_of number stored) (bytes_of number stored) anchors o m

abbrev pub own_supplied : ℕ → ℕ → List ℕ → Options → ℕ → Result Decoding Refused
own_supplied number bv stored o m = supplied_decoding_of number bv stored (fits_of number stored) (bytes_of number stored) o m

abbrev pub own_written : ℕ → Result Decoding Refused → List ℕ → List ℕ → List ℕ
own_written number d stored out = written_of d stored (bytes_of number stored) out
