-- DEMAND 1: every input gets one of the answers. For each public entry that answers: the lines of the table of answers that its answer can have, and what
-- a refusal leaves: nothing beside it, no result and no warnings (but the candidates beside 5), and every lent buffer as it was. That an entry gives one
-- outcome alone is SingleOutcome's.
-- Assumes nothing.
use Rattle.std.specs.Prelude.{ℕ, ◌<◌, ◌≡◌, Bool, true, false, Some, None, Result, Ok, Err, IsErr, List, [], length, get_or}
use Rattle.std.specs.Borrow.{Bor}
use Rattle.answers.specs.Answers.{Answer, Bvs, number_of, is_accepted, answer_in}
use Rattle.answers.specs.Tables.{empty}
use Rattle.answers.specs.declared.kinds.Refusal.{Refusal}
use Rattle.answers.specs.declared.settings.Options.{Options}
use Rattle.sector.specs.declared.fits.Fit.{Fit}
use Rattle.page.specs.Trailer.{trailer_answer}
use Rattle.page.specs.Integrity.{written_integrity, integrity_of}
use Rattle.page.specs.Superblock.{superblock_answer, checked_superblock}
use Rattle.summary.specs.Page.{page_scan_of, scanned}
use Rattle.summary.specs.Replace.{replaced, stored_after, shifted_after}
use Rattle.slotted.specs.Locations.{located_of}
use Rattle.slotted.specs.Parses as slotted
use Rattle.slotted.specs.declared.locations.Located.{Located}
use Rattle.slotted.specs.declared.directories.Parsed.{Parsed}
use Rattle.rows.specs.Rows.{IsPart}
use Rattle.rows.specs.RowAnswers.{rows_of, row_of, row_found_of, row_answer_of, rows_counted_of, starts_in}
use Rattle.choice.specs.declared.Refused as choice
use Rattle.choice.specs.Rules.{refusal, refused_answer, choice_of}
use Rattle.choice.specs.Supplied.{supplied_of}
use Rattle.meanings.specs.Sources.{value_at}
use Rattle.verdict.specs.declared.Decoding.{Decoding}
use Rattle.verdict.specs.Verdict.{integrity_refuses, verdict_by, supplied_verdict}
use Rattle.decode.specs.Decode.{decoding_of, supplied_decoding_of, written_of}
use Rattle.demands.specs.Told.{OneOf, length_lines, integrity_lines, magic_lines, scan_lines, replacement_lines, parse_lines, row_lines}
use Rattle.demands.specs.Told.{choice_lines, support_lines, verdict_lines, supplied_verdict_lines, decoding_lines, supplied_lines}

-- the entries, each by the definition that its contract equates it to
pub record Answered : Type 0 where
  -- `PageTrailer::parse`, `check_integrity`, `check_written`, `Superblock::parse`, `parse_checked`
  pub trailer : (stored : List ℕ) → OneOf (length_lines stored) (answer_in (trailer_answer stored))
  pub integrity : (number : ℕ) (stored : List ℕ) → OneOf (integrity_lines number stored) (integrity_of number stored)
  pub written : (number : ℕ) (stored : List ℕ) → OneOf (integrity_lines number stored) (written_integrity number stored)
  pub superblock : (stored : List ℕ) → OneOf (length_lines stored) (answer_in (superblock_answer stored))
  pub checked : (stored : List ℕ) → OneOf (magic_lines stored) (answer_in (checked_superblock stored))
  -- `scan_page`, `replace_sector`
  pub scan : (number : ℕ) (stored : List ℕ) (m : ℕ) → OneOf (scan_lines (length stored) m) (answer_in (page_scan_of number stored m))
  pub replacement :
      (number s : ℕ) (new : List ℕ) (n m : ℕ) (fits : List Fit)
      → OneOf (replacement_lines s n m) (answer_in (replaced number s new n m fits))
  -- `parse`, `parse_answer` and `locate`, `row_answer` and `row_found`, `rows_counted` and `row_starts`
  pub parse :
      (lim number : ℕ) (plain : List ℕ) (lenient : Bool)
      → OneOf (parse_lines lim number plain) (answer_in (slotted.parsed_of lim number plain lenient))
  pub located :
      (lim number : ℕ) (plain : List ℕ) (lenient : Bool)
      → OneOf (parse_lines lim number plain) (answer_in (located_of lim number plain lenient))
  pub row :
      (lim number : ℕ) (plain : List ℕ) (lenient : Bool) (r : ℕ)
      → OneOf (row_lines lim number plain r) (row_answer_of lim number plain lenient r)
  pub counted :
      (lim number : ℕ) (plain : List ℕ) (lenient : Bool)
      → OneOf (parse_lines lim number plain) (answer_in (rows_counted_of lim number plain lenient))
  -- `choose_bv`, `supplied_bv`
  pub choice :
      (number : ℕ) (shifted anchors : List ℕ) (n : ℕ) (o : Options)
      → OneOf (choice_lines o.search_limit number shifted) (refused_answer (choice_of number shifted anchors n o))
  pub support :
      (number bv : ℕ) (shifted : List ℕ) (n : ℕ) (o : Options)
      → OneOf (support_lines o.search_limit number bv shifted) (refused_answer (supplied_of number bv shifted n o))
  -- `decide` and `decide_supplied` of `verdict`: what was found of the page's integrity is passed on where it refuses
  pub verdict :
      (number : ℕ) (x : Answer) (n : ℕ) (fits : List Fit) (shifted anchors : List ℕ) (o : Options)
      → integrity_refuses x o ≡ false
      → OneOf (verdict_lines o.search_limit number fits shifted) (refused_answer (verdict_by number x n fits shifted anchors o))
  pub passed_on :
      (number : ℕ) (x : Refusal) (n : ℕ) (fits : List Fit) (shifted anchors : List ℕ) (o : Options)
      → integrity_refuses (Some x) o ≡ true
      → verdict_by number (Some x) n fits shifted anchors o ≡ Err (refusal x)
  pub supplied-verdict :
      (number bv n : ℕ) (fits : List Fit) (shifted : List ℕ) (o : Options)
      → OneOf (supplied_verdict_lines o.search_limit number bv fits shifted) (refused_answer (supplied_verdict number bv n fits shifted o))
  -- `decode_page` and `decode_summary`, `decode_with_bv` and `decode_summary_with_bv`
  pub decoding :
      (number : ℕ) (stored : List ℕ) (fits : List Fit) (shifted anchors : List ℕ) (o : Options) (m : ℕ)
      → OneOf (decoding_lines o.search_limit number stored fits shifted m) (refused_answer (decoding_of number stored fits shifted anchors o m))
  pub supplied :
      (number bv : ℕ) (stored : List ℕ) (fits : List Fit) (shifted : List ℕ) (o : Options) (m : ℕ)
      → OneOf (supplied_lines o.search_limit number bv stored fits shifted m) (refused_answer (supplied_decoding_of number bv stored fits shifted o m))

-- ---- refusals

-- a refused parse is its refusal alone: no directory, and no warnings
pub record NoDirectory (p : Result Parsed Refusal) : Type 0 where
  pub none : IsErr p

-- nor has the small value
pub record NothingLocated (l : Result Located Refusal) : Type 0 where
  pub none : IsErr l

-- values of bv in ascending order, each once; each place has one
pub record Ascending (t : Bvs) : Type 0 where
  pub held : (i : ℕ) → i < t.len → get_or t.items i None ≡ Some (value_at t i)
  pub rising : (i j : ℕ) → i < j → j < t.len → value_at t i < value_at t j

-- what stands beside an answer that refuses
abbrev pub candidates_in : {A : Type 0} → Result A choice.Refused → Bvs
candidates_in (Ok x) = empty
candidates_in (Err e) = e.candidates

-- a refused choice has no bv, no evidence and no warning; "5: page, candidates ascending", which stand beside no other answer
pub record NothingTaken {A : Type 0} (r : Result A choice.Refused) : Type 0 where
  pub blank : IsErr r
  pub candidates : Ascending (candidates_in r)
  pub group : (number_of (refused_answer r) ≡ 5 → ⊥) → candidates_in r ≡ empty

-- a refused decoding says why, and nothing else: it has no fits and no warnings
pub record Silent (d : Result Decoding choice.Refused) : Type 0 where
  pub choice : NothingTaken d
  pub out : (stored shifted out : List ℕ) → written_of d stored shifted out ≡ out

pub record Refused : Type 0 where
  pub trailer : (stored : List ℕ) → is_accepted (answer_in (trailer_answer stored)) ≡ false → IsErr (trailer_answer stored)
  pub superblock : (stored : List ℕ) → is_accepted (answer_in (superblock_answer stored)) ≡ false → IsErr (superblock_answer stored)
  pub checked : (stored : List ℕ) → is_accepted (answer_in (checked_superblock stored)) ≡ false → IsErr (checked_superblock stored)
  pub scan :
      (number : ℕ) (stored buffer : List ℕ)
      → is_accepted (answer_in (page_scan_of number stored (length buffer))) ≡ false
      → IsErr (page_scan_of number stored (length buffer)) × (scanned number stored buffer ≡ buffer)
  pub replacement :
      (number s : ℕ) (new stored shifted : List ℕ) (fits : List Fit)
      → is_accepted (answer_in (replaced number s new (length stored) (length shifted) fits)) ≡ false
      → IsErr (replaced number s new (length stored) (length shifted) fits)
      × (stored_after s new stored (length shifted) ≡ stored)
      × (shifted_after number s new (length stored) shifted ≡ shifted)
  pub parse :
      (lim number : ℕ) (plain : List ℕ) (lenient : Bool)
      → is_accepted (answer_in (slotted.parsed_of lim number plain lenient)) ≡ false
      → NoDirectory (slotted.parsed_of lim number plain lenient)
  pub located :
      (lim number : ℕ) (plain : List ℕ) (lenient : Bool)
      → is_accepted (answer_in (located_of lim number plain lenient)) ≡ false
      → NothingLocated (located_of lim number plain lenient)
  pub row :
      (lim number : ℕ) (plain : List ℕ) (lenient : Bool) (r : ℕ)
      → is_accepted (row_answer_of lim number plain lenient r) ≡ false
      → IsErr (row_found_of lim number plain lenient r) × (row_of lim plain lenient r ≡ None)
  -- "every refusal gives the empty part", "at 0"
  pub part : (s p : Bor (List ℕ)) → IsPart s p None → (p.ref_ptr ≡ s.ref_ptr) × (p.now ≡ [])
  pub counted :
      (lim number : ℕ) (plain : List ℕ) (lenient : Bool)
      → is_accepted (answer_in (rows_counted_of lim number plain lenient)) ≡ false
      → IsErr (rows_counted_of lim number plain lenient) × (length (rows_of lim plain lenient) ≡ 0)
  pub starts :
      (lim number : ℕ) (plain : List ℕ) (lenient : Bool) (starts : List ℕ)
      → is_accepted (answer_in (rows_counted_of lim number plain lenient)) ≡ false
      → starts_in (rows_of lim plain lenient) starts ≡ starts
  pub choice :
      (number : ℕ) (shifted anchors : List ℕ) (n : ℕ) (o : Options)
      → is_accepted (refused_answer (choice_of number shifted anchors n o)) ≡ false
      → NothingTaken (choice_of number shifted anchors n o)
  pub support :
      (number bv : ℕ) (shifted : List ℕ) (n : ℕ) (o : Options)
      → is_accepted (refused_answer (supplied_of number bv shifted n o)) ≡ false
      → NothingTaken (supplied_of number bv shifted n o)
  pub verdict :
      (number : ℕ) (x : Answer) (n : ℕ) (fits : List Fit) (shifted anchors : List ℕ) (o : Options)
      → is_accepted (refused_answer (verdict_by number x n fits shifted anchors o)) ≡ false
      → Silent (verdict_by number x n fits shifted anchors o)
  pub supplied-verdict :
      (number bv n : ℕ) (fits : List Fit) (shifted : List ℕ) (o : Options)
      → is_accepted (refused_answer (supplied_verdict number bv n fits shifted o)) ≡ false
      → Silent (supplied_verdict number bv n fits shifted o)
  pub decoding :
      (number : ℕ) (stored : List ℕ) (fits : List Fit) (shifted anchors : List ℕ) (o : Options) (m : ℕ)
      → is_accepted (refused_answer (decoding_of number stored fits shifted anchors o m)) ≡ false
      → Silent (decoding_of number stored fits shifted anchors o m)
  pub supplied :
      (number bv : ℕ) (stored : List ℕ) (fits : List Fit) (shifted : List ℕ) (o : Options) (m : ℕ)
      → is_accepted (refused_answer (supplied_decoding_of number bv stored fits shifted o m)) ≡ false
      → Silent (supplied_decoding_of number bv stored fits shifted o m)
