-- DEMAND 1, proved. Assumes nothing.
use Prim.Native.Nat.{ℕ}
use mathlib.Core.Path.{◌≡◌, refl, sym, ap, ◌∙◌, subst}
use mathlib.Core.Bool.{Bool, true, false, not, ◌&&◌}
use mathlib.Core.List.{List, [], ◌∷◌}
use native.Mathlib.Nat.{zero-add}
use borrow.Author.Tests.{eq-eqb}
use denote.Ref.{Bor}
use lib.Dec.{eqb, ltb}
use lib.ListN.{length}
use lib.Seq.{take-nil}
use Rattle.std.specs.Prelude.{Option, Some, None, Result, Ok, Err, IsErr, ok_or}
use Rattle.std.specs.Result.{result_and}
use Rattle.lists.specs.Cases.{pick}
use Rattle.lists.specs.Pieces.{over}
use Rattle.lists.proofs.Over.{over_none}
use Rattle.lists.proofs.Booleans.{not_back}
use Rattle.lists.proofs.Picks.{pick-case, never_both}
use Rattle.answers.specs.Answers.{Answer, is_accepted, answer_in}
use Rattle.answers.specs.Settings.{keystream, limit_fits}
use Rattle.answers.specs.Tables.{empty}
use Rattle.answers.specs.Warns.{Warnings}
use Rattle.answers.specs.declared.kinds.Refusal.{Refusal}
use Rattle.answers.specs.declared.kinds.Refusal.TheVariants.{WrongPageLength, WrongBufferLength, BadCrc, BadTrailer, BadReplacement, NoSuchRow}
use Rattle.answers.specs.declared.settings.Options.{Options}
use Rattle.sector.specs.declared.fits.Fit.{Fit}
use Rattle.page.specs.Trailer.{is_page, row_count_of, stored_crc, trailer_answer}
use Rattle.page.specs.Integrity.{is_unallocated, computed_crc, trailer_holds, written_integrity, integrity_of}
use Rattle.page.specs.Superblock.{magic_of, superblock_answer, checked_superblock}
use Rattle.page.specs.declared.trailers.PageTrailer.{PageTrailer}
use Rattle.page.specs.declared.superblocks.Superblock.{Superblock}
use Rattle.summary.specs.Page.{fits_of, bytes_of, checked, ok_if, page_scan_of, scanned}
use Rattle.summary.specs.Replace.{sector_answer, replace_answer, replaced, stored_after, shifted_after}
use Rattle.directory.specs.Decisions.{Decision, numbered, answer_of, listed_of, decision_of}
use Rattle.slotted.specs.Locations.{located_by, located_of}
use Rattle.slotted.specs.Parses.{parsed_by, parsed_of}
use Rattle.slotted.specs.declared.directories.Parsed.{Parsed}
use Rattle.rows.specs.Rows.{row_in, IsPart}
use Rattle.rows.specs.RowAnswers.{rows_in, rows_of, row_of, row_found_of, row_answer_of, rows_counted_of, starts_in}
use Rattle.rows.specs.declared.spans.Span.{Span}
use Rattle.rows.proofs.RowAnswers.{no_rows}
use Rattle.votes.specs.Votes.{counts_of, top_of}
use Rattle.choice.specs.declared.Choice.{Choice}
use Rattle.choice.specs.declared.Refused as choice
use Rattle.choice.specs.Rules.{refusal, refused_answer, choice_of}
use Rattle.choice.specs.Supplied.{supplied_of}
use Rattle.verdict.specs.declared.Decoding.{Decoding}
use Rattle.verdict.specs.Sectors.{refit_of}
use Rattle.verdict.specs.Verdict.{integrity_refuses, settled_of, verdict_by, verdict_of, supplied_verdict}
use Rattle.decode.specs.Decode.{decoding_of, supplied_decoding_of, written_of}
use Rattle.demands.specs.Told.{Line, values_at, OneOf, length_lines, integrity_lines, magic_lines, scan_lines, replacement_lines, parse_lines, row_lines}
use Rattle.demands.specs.Told.{choice_lines, support_lines, verdict_lines, supplied_verdict_lines, weak_values, first_wrong, decoding_lines, supplied_lines}
use Rattle.demands.specs.Demand1.{Answered, NothingTaken, Silent, Refused}
use Rattle.demands.proofs.DecodingCases.{verdict-case}
use Rattle.demands.proofs.AnswerLines.{Has, Gives, nothing-taken, choice-gives, supplied-gives, gives-refusal, gives-settled, gives-checked}
use Rattle.demands.proofs.ParseLines.{HasParse, decision-settles}
use Rattle.demands.proofs.Refusals.{refused-alone, ok-answer, left-alone}

-- ---- pages

trailer-one : (stored : List ℕ) → OneOf (length_lines stored) (answer_in (trailer_answer stored))
unfolding trailer_answer values_at
trailer-one stored =
    pick-case (λ (r : Result PageTrailer Refusal). OneOf (length_lines stored) (answer_in r)) (not (is_page stored)) _ _
    (λ e. record { is = refl }) (λ e. record { is = refl })

module _
    (lines : List Line)
    (number : ℕ)
    (stored : List ℕ)
    (zero : Has lines 0 [])
    (one : (length stored ≡ 4096 → ⊥) → Has lines 1 (length stored ∷ []))
    (three : Has lines 3 (number ∷ stored_crc stored ∷ computed_crc stored ∷ []))
    (four : Has lines 4 (number ∷ []))
  where
    written_one : OneOf lines (written_integrity number stored)
    unfolding written_integrity
    written_one =
        let bad : Answer = pick (not (trailer_holds number stored)) (Some (BadTrailer number)) None in
        let bad_crc : Answer = Some (BadCrc number (stored_crc stored) (computed_crc stored)) in
        let crc : Answer = pick (not (eqb (stored_crc stored) (computed_crc stored))) bad_crc bad in
        pick-case (OneOf lines) (not (is_page stored)) (Some (WrongPageLength (length stored))) crc
        (λ f. record { is = one (λ e. never_both (not_back f) (eq-eqb (length stored) 4096 e)) })
        (λ f.
        pick-case (OneOf lines) (not (eqb (stored_crc stored) (computed_crc stored))) bad_crc bad (λ g. record { is = three })
        (λ g.
        pick-case (OneOf lines) (not (trailer_holds number stored)) (Some (BadTrailer number)) None (λ h. record { is = four })
        (λ h. record { is = zero })))

    integrity-one : OneOf lines (integrity_of number stored)
    unfolding integrity_of
    integrity-one = pick-case (OneOf lines) (is_unallocated stored) None (written_integrity number stored) (λ e. record { is = zero }) (λ e. written_one)

superblock-one : (stored : List ℕ) → OneOf (length_lines stored) (answer_in (superblock_answer stored))
unfolding superblock_answer values_at
superblock-one stored =
    pick-case (λ (r : Result Superblock Refusal). OneOf (length_lines stored) (answer_in r)) (not (is_page stored)) _ _
    (λ e. record { is = refl }) (λ e. record { is = refl })

checked_one : (stored : List ℕ) → OneOf (magic_lines stored) (answer_in (checked_superblock stored))
unfolding checked_superblock values_at
checked_one stored =
    let P : Result Superblock Refusal → Type 0 = λ r. OneOf (magic_lines stored) (answer_in r) in
    pick-case P (not (is_page stored)) _ _ (λ e. record { is = refl })
    (λ e. pick-case P (not (eqb (magic_of stored) 0xDA7ABA5E)) _ _ (λ f. record { is = refl }) (λ f. record { is = refl }))

-- ---- summaries

checked-one :
    {A : Type 0} (lines : List Line) (n m : ℕ) (x : Answer) (y : A)
    → Has lines 1 (n ∷ [])
    → Has lines 2 (m ∷ [])
    → OneOf lines x
    → OneOf lines (answer_in (ok_if (checked n m x) y))
checked-one lines n m x y one two h =
    subst (OneOf lines) (sym (ok-answer y (checked n m x)))
    (pick-case (OneOf lines) (eqb n 4096) (pick (eqb m 4080) x (Some (WrongBufferLength m))) (Some (WrongPageLength n))
    (λ e. pick-case (OneOf lines) (eqb m 4080) x (Some (WrongBufferLength m)) (λ f. h) (λ f. record { is = two }))
    (λ e. record { is = one }))

scan-one : (number : ℕ) (stored : List ℕ) (m : ℕ) → OneOf (scan_lines (length stored) m) (answer_in (page_scan_of number stored m))
unfolding page_scan_of values_at
scan-one number stored m =
    checked-one (scan_lines (length stored) m) (length stored) m None (fits_of number stored) refl refl (record { is = refl })

replaced-one : (number s : ℕ) (new : List ℕ) (n m : ℕ) (fits : List Fit) → OneOf (replacement_lines s n m) (answer_in (replaced number s new n m fits))
unfolding replaced values_at
replaced-one number s new n m fits =
    checked-one (replacement_lines s n m) n m (sector_answer s new) _ refl refl
    (pick-case (OneOf (replacement_lines s n m)) (ltb s 8 && eqb (length new) 512) None (Some (BadReplacement s))
    (λ g. record { is = refl }) (λ g. record { is = refl }))

scan-quiet :
    (number : ℕ) (stored buffer : List ℕ)
    → is_accepted (answer_in (page_scan_of number stored (length buffer))) ≡ false
    → IsErr (page_scan_of number stored (length buffer)) × (scanned number stored buffer ≡ buffer)
unfolding page_scan_of scanned
scan-quiet number stored buffer e = (
  refused-alone _ e,
  left-alone (fits_of number stored) (bytes_of number stored) buffer (checked (length stored) (length buffer) None) e,
)

replaced-quiet :
    (number s : ℕ) (new stored shifted : List ℕ) (fits : List Fit)
    → is_accepted (answer_in (replaced number s new (length stored) (length shifted) fits)) ≡ false
    → IsErr (replaced number s new (length stored) (length shifted) fits)
    × (stored_after s new stored (length shifted) ≡ stored)
    × (shifted_after number s new (length stored) shifted ≡ shifted)
unfolding replaced stored_after shifted_after
replaced-quiet number s new stored shifted fits e =
    let a : Answer = replace_answer s new (length stored) (length shifted) in
    (refused-alone _ e, left-alone _ _ stored a e, left-alone _ _ shifted a e)

-- ---- slots and rows

module _ (lim number : ℕ) (plain : List ℕ) where
  parse-has : HasParse (parse_lines lim number plain) lim number plain
  unfolding values_at
  parse-has = record { zero = refl; one = refl; eight = refl; nine = refl; ten = refl; eleven = refl; twelve = refl; twenty = λ f. refl }

  row_has : (r : ℕ) → HasParse (row_lines lim number plain r) lim number plain
  unfolding values_at
  row_has r = record { zero = refl; one = refl; eight = refl; nine = refl; ten = refl; eleven = refl; twelve = refl; twenty = λ f. refl }

  -- a parse, and its small value, have the answer of what is decided
  parsed_answer : (d : Decision) → answer_in (parsed_by number plain (numbered number d)) ≡ answer_of number d
  parsed_answer (Ok d) = refl
  parsed_answer (Err u) = refl

  located_answer : (d : Decision) → answer_in (located_by number (numbered number d)) ≡ answer_of number d
  located_answer (Ok d) = refl
  located_answer (Err u) = refl

  -- where the parse refuses there are no rows
  unlisted-rows : (d : Decision) → is_accepted (answer_of number d) ≡ false → rows_in plain (listed_of d) ≡ []
  unlisted-rows (Ok d) e = absurd (never_both e refl)
  unlisted-rows (Err u) e = refl

  -- a row that is asked for behind a parse
  module _ (r : ℕ) where
    abbrev found : Result Parsed Refusal → Option Span → Answer
    found p s = answer_in (result_and p (ok_or s (NoSuchRow r)))

    found-one :
        (p : Result Parsed Refusal) (s : Option Span)
        → OneOf (row_lines lim number plain r) (answer_in p)
        → OneOf (row_lines lim number plain r) (found p s)
    unfolding values_at
    found-one (Ok x) (Some s) h = record { is = refl }
    found-one (Ok x) None h = record { is = refl }
    found-one (Err e) s h = h

    found-quiet :
        (p : Result Parsed Refusal) (s : Option Span) → (is_accepted (answer_in p) ≡ false → s ≡ None) → is_accepted (found p s) ≡ false → s ≡ None
    found-quiet (Ok x) (Some s) h q = absurd (never_both q refl)
    found-quiet (Ok x) None h q = refl
    found-quiet (Err e) s h q = h q

  pub counted_answer : (p : Result Parsed Refusal) (k : ℕ) → answer_in (result_and p (Ok k)) ≡ answer_in p
  counted_answer (Ok x) k = refl
  counted_answer (Err e) k = refl

  module _ (lenient : Bool) where
    abbrev decided : Decision
    decided = decision_of lim plain lenient

    pub parse-in : (lines : List Line) → HasParse lines lim number plain → OneOf lines (answer_in (parsed_of lim number plain lenient))
    unfolding parsed_of
    parse-in lines h = subst (OneOf lines) (sym (parsed_answer decided)) (decision-settles lines lim number plain h lenient)

    parse-one : OneOf (parse_lines lim number plain) (answer_in (parsed_of lim number plain lenient))
    parse-one = parse-in (parse_lines lim number plain) parse-has

    located-one : OneOf (parse_lines lim number plain) (answer_in (located_of lim number plain lenient))
    unfolding located_of
    located-one =
        subst (OneOf (parse_lines lim number plain)) (sym (located_answer decided))
        (decision-settles (parse_lines lim number plain) lim number plain parse-has lenient)

    rows_none : is_accepted (answer_in (parsed_of lim number plain lenient)) ≡ false → rows_of lim plain lenient ≡ []
    unfolding parsed_of rows_of
    rows_none e = unlisted-rows decided (ap (λ (x : Answer). is_accepted x) (sym (parsed_answer decided)) ∙ e)

    row_one : (r : ℕ) → OneOf (row_lines lim number plain r) (row_answer_of lim number plain lenient r)
    row_one r =
        found-one r (parsed_of lim number plain lenient) (row_of lim plain lenient r) (parse-in (row_lines lim number plain r) (row_has r))

    row-quiet :
        (r : ℕ)
        → is_accepted (row_answer_of lim number plain lenient r) ≡ false
        → IsErr (row_found_of lim number plain lenient r) × (row_of lim plain lenient r ≡ None)
    row-quiet r e = (
      refused-alone (row_found_of lim number plain lenient r) e,
      found-quiet r (parsed_of lim number plain lenient) (row_of lim plain lenient r) (λ q. ap (row_in r) (rows_none q) ∙ no_rows r) e,
    )

    counted-one : OneOf (parse_lines lim number plain) (answer_in (rows_counted_of lim number plain lenient))
    counted-one =
        subst (OneOf (parse_lines lim number plain)) (sym (counted_answer (parsed_of lim number plain lenient) (length (rows_of lim plain lenient)))) parse-one

    uncounted : is_accepted (answer_in (rows_counted_of lim number plain lenient)) ≡ false → rows_of lim plain lenient ≡ []
    uncounted e =
        rows_none
        (ap (λ (x : Answer). is_accepted x) (sym (counted_answer (parsed_of lim number plain lenient) (length (rows_of lim plain lenient)))) ∙ e)

    counted-quiet :
        is_accepted (answer_in (rows_counted_of lim number plain lenient)) ≡ false
        → IsErr (rows_counted_of lim number plain lenient) × (length (rows_of lim plain lenient) ≡ 0)
    counted-quiet e = (refused-alone (rows_counted_of lim number plain lenient) e, ap length (uncounted e))

    starts-quiet :
        (starts : List ℕ)
        → is_accepted (answer_in (rows_counted_of lim number plain lenient)) ≡ false
        → starts_in (rows_of lim plain lenient) starts ≡ starts
    starts-quiet starts e =
        ap (λ (rows : List ℕ). starts_in rows starts) (uncounted e)
        ∙ ap (over starts 0) (take-nil (length starts))
        ∙ over_none starts 0

part-empty : (s p : Bor (List ℕ)) → IsPart s p None → (p.ref_ptr ≡ s.ref_ptr) × (p.now ≡ [])
part-empty s p h = (h.place ∙ ap (λ (k : ℕ). (s.ref_ptr.0, k)) (zero-add s.ref_ptr.1), h.bytes)

-- ---- choices and decodings

-- a refused decoding leaves out as it was
silent : (d : Result Decoding choice.Refused) → NothingTaken d → Silent d
unfolding written_of
silent (Ok d) c = absurd (never_both refl c.blank)
silent (Err e) c = record { choice = c; out = λ stored shifted out. refl }

-- shifted bytes of the right length are never answered with 2
no-two : (lines : List Line) (k : ℕ) → k ≡ 4080 → eqb k 4080 ≡ false → Has lines 2 (k ∷ [])
no-two lines k e f = absurd (never_both f (eq-eqb k 4080 e))

choice-holds :
    (number : ℕ) (shifted anchors : List ℕ) (n : ℕ) (o : Options)
    → Gives (choice_lines o.search_limit number shifted) (choice_of number shifted anchors n o)
unfolding values_at
choice-holds number shifted anchors n o =
    choice-gives (choice_lines o.search_limit number shifted) number shifted anchors n o refl (λ e. refl) refl refl (λ f. refl)

support-holds :
    (number bv : ℕ) (shifted : List ℕ) (n : ℕ) (o : Options)
    → Gives (support_lines o.search_limit number bv shifted) (supplied_of number bv shifted n o)
unfolding values_at
support-holds number bv shifted n o =
    supplied-gives (support_lines o.search_limit number bv shifted) number bv refl refl shifted n o (λ e. refl) (λ f. refl)

module _ (number : ℕ) (n : ℕ) (fits : List Fit) (shifted anchors : List ℕ) (o : Options) where
  abbrev ruled : Result Choice choice.Refused
  ruled = choice_of number shifted anchors n o

  abbrev judged : Answer → Result Decoding choice.Refused
  judged x = verdict_by number x n fits shifted anchors o

  abbrev lines : List Line
  lines = verdict_lines o.search_limit number fits shifted

  settled-gives : (ws : Warnings) → Gives lines (settled_of number (keystream o) (refit_of fits shifted) ruled ws)
  unfolding values_at
  settled-gives ws =
      gives-settled lines number (keystream o) (refit_of fits shifted) ruled ws refl
      (choice-gives lines number shifted anchors n o refl (λ e. refl) refl refl (λ f. refl)) refl

  verdict-one : (x : Answer) → integrity_refuses x o ≡ false → OneOf lines (refused_answer (judged x))
  verdict-one x e =
      verdict-case (λ (d : Result Decoding choice.Refused). OneOf lines (refused_answer d)) number x n fits shifted anchors o
      (λ r k q. absurd (never_both e q)) (λ q. record { is = (settled-gives _).is })

  verdict-passed : (x : Refusal) → integrity_refuses (Some x) o ≡ true → judged (Some x) ≡ Err (refusal x)
  unfolding verdict_by
  verdict-passed x e = rw e

  verdict-quiet : (x : Answer) → is_accepted (refused_answer (judged x)) ≡ false → Silent (judged x)
  verdict-quiet x e =
      silent (judged x)
      (verdict-case (λ (d : Result Decoding choice.Refused). is_accepted (refused_answer d) ≡ false → NothingTaken d) number x n fits shifted anchors o
      (λ r k q f. nothing-taken r) (λ q. (settled-gives _).quiet) e)

module _ (number bv n : ℕ) (fits : List Fit) (shifted : List ℕ) (o : Options) where
  supplied-verdict-holds : Gives (supplied_verdict_lines o.search_limit number bv fits shifted) (supplied_verdict number bv n fits shifted o)
  unfolding values_at
  supplied-verdict-holds =
      let lines : List Line = supplied_verdict_lines o.search_limit number bv fits shifted in
      gives-settled lines number (keystream o) (refit_of fits shifted) (supplied_of number bv shifted n o) empty refl
      (supplied-gives lines number bv refl refl shifted n o (λ e. refl) (λ f. refl)) refl

  supplied-verdict-quiet :
      is_accepted (refused_answer (supplied_verdict number bv n fits shifted o)) ≡ false
      → Silent (supplied_verdict number bv n fits shifted o)
  supplied-verdict-quiet e = silent (supplied_verdict number bv n fits shifted o) (supplied-verdict-holds.quiet e)

module _ (number : ℕ) (stored : List ℕ) (fits : List Fit) (shifted anchors : List ℕ) (o : Options) (m : ℕ) where
  pub decoding-gives :
      (lines : List Line)
      → Has lines 0 []
      → ((length stored ≡ 4096 → ⊥) → Has lines 1 (length stored ∷ []))
      → ((m ≡ 4096 → length shifted ≡ 4080 → ⊥) → Has lines 2 (first_wrong m (length shifted) ∷ []))
      → Has lines 3 (number ∷ stored_crc stored ∷ computed_crc stored ∷ [])
      → Has lines 4 (number ∷ [])
      → Has lines 5 (number ∷ [])
      → Has lines 6 (number ∷ top_of (counts_of shifted) ∷ [])
      → Has lines 7 (weak_values number (refit_of fits shifted))
      → (limit_fits o.search_limit ≡ false → Has lines 20 (o.search_limit ∷ []))
      → Gives lines (decoding_of number stored fits shifted anchors o m)
  unfolding decoding_of verdict_of
  decoding-gives lines zero one two three four five six seven twenty =
      let x : Answer = integrity_of number stored in
      gives-checked lines stored shifted m o.search_limit (verdict_of number stored fits shifted anchors o)
      (λ k f.
      verdict-case (Gives lines) number x (row_count_of stored) fits shifted anchors o
      (λ r k q.
      gives-refusal lines r (subst (OneOf lines) k (integrity-one lines number stored zero one three four)).is)
      (λ q.
      gives-settled lines number (keystream o) (refit_of fits shifted) (choice_of number shifted anchors (row_count_of stored) o) _ zero
      (choice-gives lines number shifted anchors (row_count_of stored) o zero (no-two lines (length shifted) k) five six twenty) seven))
      zero one two twenty

  decoding-holds : Gives (decoding_lines o.search_limit number stored fits shifted m) (decoding_of number stored fits shifted anchors o m)
  unfolding values_at
  decoding-holds =
      decoding-gives (decoding_lines o.search_limit number stored fits shifted m) refl (λ e. refl) (λ e. refl) refl refl refl refl refl (λ f. refl)

  decoding-quiet :
      is_accepted (refused_answer (decoding_of number stored fits shifted anchors o m)) ≡ false
      → Silent (decoding_of number stored fits shifted anchors o m)
  decoding-quiet e = silent _ (decoding-holds.quiet e)

module _ (number bv : ℕ) (stored : List ℕ) (fits : List Fit) (shifted : List ℕ) (o : Options) (m : ℕ) where
  pub supplied-decoding-gives :
      (lines : List Line)
      → Has lines 0 []
      → ((length stored ≡ 4096 → ⊥) → Has lines 1 (length stored ∷ []))
      → ((m ≡ 4096 → length shifted ≡ 4080 → ⊥) → Has lines 2 (first_wrong m (length shifted) ∷ []))
      → Has lines 6 (number ∷ bv ∷ [])
      → Has lines 7 (weak_values number (refit_of fits shifted))
      → (limit_fits o.search_limit ≡ false → Has lines 20 (o.search_limit ∷ []))
      → Gives lines (supplied_decoding_of number bv stored fits shifted o m)
  unfolding supplied_decoding_of
  supplied-decoding-gives lines zero one two six seven twenty =
      gives-checked lines stored shifted m o.search_limit (supplied_verdict number bv (row_count_of stored) fits shifted o)
      (λ k f.
      gives-settled lines number (keystream o) (refit_of fits shifted) (supplied_of number bv shifted (row_count_of stored) o) empty zero
      (supplied-gives lines number bv zero six shifted (row_count_of stored) o (no-two lines (length shifted) k) twenty) seven)
      zero one two twenty

  supplied-holds : Gives (supplied_lines o.search_limit number bv stored fits shifted m) (supplied_decoding_of number bv stored fits shifted o m)
  unfolding values_at
  supplied-holds =
      supplied-decoding-gives (supplied_lines o.search_limit number bv stored fits shifted m) refl (λ e. refl) (λ e. refl) refl refl (λ f. refl)

  supplied-quiet :
      is_accepted (refused_answer (supplied_decoding_of number bv stored fits shifted o m)) ≡ false
      → Silent (supplied_decoding_of number bv stored fits shifted o m)
  supplied-quiet e = silent _ (supplied-holds.quiet e)

-- ---- the demand

pub every-input-answered : Answered
unfolding values_at
every-input-answered =
    record {
      trailer = trailer-one;
      integrity = λ number stored. integrity-one (integrity_lines number stored) number stored refl (λ e. refl) refl refl;
      written = λ number stored. written_one (integrity_lines number stored) number stored refl (λ e. refl) refl refl;
      superblock = superblock-one;
      checked = checked_one;
      scan = scan-one;
      replacement = replaced-one;
      parse = parse-one;
      located = located-one;
      row = row_one;
      counted = counted-one;
      choice = λ number shifted anchors n o. record { is = (choice-holds number shifted anchors n o).is };
      support = λ number bv shifted n o. record { is = (support-holds number bv shifted n o).is };
      verdict = λ number x n fits shifted anchors o. verdict-one number n fits shifted anchors o x;
      passed_on = λ number x n fits shifted anchors o. verdict-passed number n fits shifted anchors o x;
      supplied-verdict = λ number bv n fits shifted o. record { is = (supplied-verdict-holds number bv n fits shifted o).is };
      decoding = λ number stored fits shifted anchors o m. record { is = (decoding-holds number stored fits shifted anchors o m).is };
      supplied = λ number bv stored fits shifted o m. record { is = (supplied-holds number bv stored fits shifted o m).is };
    }

pub refusals-silent : Refused
refusals-silent =
    record {
      trailer = λ stored. refused-alone (trailer_answer stored);
      superblock = λ stored. refused-alone (superblock_answer stored);
      checked = λ stored. refused-alone (checked_superblock stored);
      scan = scan-quiet;
      replacement = replaced-quiet;
      parse = λ lim number plain lenient e. record { none = refused-alone (parsed_of lim number plain lenient) e };
      located = λ lim number plain lenient e. record { none = refused-alone (located_of lim number plain lenient) e };
      row = row-quiet;
      part = part-empty;
      counted = counted-quiet;
      starts = starts-quiet;
      choice = λ number shifted anchors n o. (choice-holds number shifted anchors n o).quiet;
      support = λ number bv shifted n o. (support-holds number bv shifted n o).quiet;
      verdict = λ number x n fits shifted anchors o. verdict-quiet number n fits shifted anchors o x;
      supplied-verdict = supplied-verdict-quiet;
      decoding = decoding-quiet;
      supplied = supplied-quiet;
    }
