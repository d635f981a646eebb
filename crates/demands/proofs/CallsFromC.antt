-- DEMAND 1 for the functions of include/lumeviqo.h, proved. Assumes nothing.
use Prim.Native.Nat.{ℕ, ◌+◌, ◌≤◌, ◌<◌}
use mathlib.Core.Path.{◌≡◌, refl, sym, ap, ◌∙◌, subst}
use mathlib.Core.Bool.{Bool, true, false, ◌&&◌, and-true}
use mathlib.Core.List.{List, [], ◌∷◌, ◌++◌, append_assoc, append-nil}
use Rattle.std.specs.Prelude.{Option, Some, None, Result, Ok, Err, is_some, unwrap_or}
use Rattle.std.specs.Result.{result_ok, result_unwrap_or}
use native.Mathlib.Omega.{arith}
use borrow.Author.Tests.{leb-true, leb-false}
use lib.ListN.{length, take, drop}
use lib.Seq.{take_at}
use Rattle.lists.specs.Bytes.{byte_at}
use Rattle.lists.specs.Cases.{pick}
use Rattle.lists.specs.Pieces.{over}
use Rattle.lists.proofs.Booleans.{and_left, and_right}
use Rattle.lists.proofs.Over.{over_none, front_at, front-take}
use Rattle.lists.proofs.Picks.{never_both}
use Rattle.answers.specs.Answers.{Answer, number_of, is_accepted, answer_in}
use Rattle.answers.specs.Settings.{has_directory}
use Rattle.answers.specs.declared.kinds.Refusal.{Refusal}
use Rattle.sector.specs.declared.fits.Fit.{Fit}
use Rattle.page.specs.Trailer.{trailer_answer}
use Rattle.page.specs.Integrity.{integrity_of}
use Rattle.page.specs.Superblock.{superblock_answer, checked_superblock}
use Rattle.page.specs.declared.trailers.PageTrailer.{PageTrailer}
use Rattle.page.specs.declared.superblocks.Superblock.{Superblock}
use Rattle.summary.specs.Page.{page_scan_of, scanned}
use Rattle.summary.specs.Replace.{replace_answer, replaced, stored_after, shifted_after}
use Rattle.slotted.specs.Parses.{parsed_of}
use Rattle.slotted.specs.declared.directories.SlotDirectory.{SlotDirectory}
use Rattle.slotted.specs.declared.directories.Parsed.{Parsed}
use Rattle.rows.specs.declared.spans.Span.{Span}
use Rattle.choice.specs.declared.Refused.{Refused}
use Rattle.choice.specs.Rules.{refused_answer}
use Rattle.verdict.specs.declared.Decoding.{Decoding}
use Rattle.decode.specs.Decode.{written_of}
use Rattle.numbers.specs.Numbers.{little_bytes}
use Rattle.numbers.specs.Writes.{Wrote}
use Rattle.numbers.proofs.Kept.{kept-short, kept-room, kept-behind}
use Rattle.fields.specs.Fields.{Field, little, field_bytes, size_of, layout_bytes}
use Rattle.fields.proofs.Sizes.{fields-long, size-append, layout-append}
use Rattle.parts.specs.Parts.{answer_size, answer_fields, place_fields, fits_size, fits_fields, warnings_fields, slots_fields}
use Rattle.parts.specs.Lent.{is_lent, fits_in}
use Rattle.parts.proofs.Sizes.{answer-size, fits-size}
use Rattle.layout.specs.Layouts.{told_fields, record_fields, record_size, trailer_fields, trailer_size, header_fields, header_size, superblock_fields, superblock_size}
use Rattle.layout.specs.Layouts.{scan_fields, scan_size, replacement_fields, beside_fields, decoding_fields, decoding_size}
use Rattle.layout.specs.Sizes.{told-size, record-size, header-size, replacement-size, decoding-size}
use Rattle.parse_layout.specs.ParseLayouts.{told_fields as parsed_fields}
use Rattle.parse_layout.specs.ParseLayouts.{no_directory, nothing_parsed, directory_fields, parse_fields, parse_size}
use Rattle.parse_layout.proofs.Sizes.{parse-size}
use Rattle.row_layout.specs.RowLayouts.{row_count_fields, row_count_size, row_fields, row_size, list_fields, rows_fields, rows_size}
use Rattle.row_layout.proofs.Sizes.{row-count-size, row-size, rows-size}
use Rattle.lumeviqo.specs.Calls.{has_room, told_if, ScanCall, ReplaceCall, DecodingCall, row_count_told}
use Rattle.demands.specs.CallsFromC.{ToldInC, Keeps, CallsAnswered}
use Rattle.demands.proofs.Refusals.{number-range, ok-answer}
use Rattle.demands.proofs.Demand1.{counted_answer, refusals-silent}

number_small : (x : Answer) → number_of x < 256
number_small None = omega arith
number_small (Some r) = omega (arith, (number-range r).1)

-- a layout of n bytes that starts with an answer
pub record StartsWith (n : ℕ) (x : Answer) (fs : List Field) : Type 0 where
  pub rest : List Field
  pub front : fs ≡ answer_fields x ++ rest
  pub size : size_of fs ≡ n

module _ {n : ℕ} {x : Answer} {fs : List Field} (s : StartsWith n x fs) where
  abbrev bytes : List ℕ
  bytes = layout_bytes fs

  long : length bytes ≡ n
  long = fields-long fs ∙ s.size

  parted : bytes ≡ layout_bytes (answer_fields x) ++ layout_bytes s.rest
  parted = ap layout_bytes s.front ∙ layout-append (answer_fields x) s.rest

  part-long : length (layout_bytes (answer_fields x)) ≡ answer_size
  part-long = fields-long (answer_fields x) ∙ answer-size x

  roomy : answer_size ≤ length bytes
  roomy = omega (arith, fields-long fs, ap size_of s.front, size-append (answer_fields x) s.rest, answer-size x)

  number_is : byte_at bytes 0 ≡ number_of x
  number_is = ap (λ (l : List ℕ). byte_at l 0) parted ∙ first
    where
      first : byte_at (layout_bytes (answer_fields x) ++ layout_bytes s.rest) 0 ≡ number_of x
      first = unfold layout_bytes answer_fields field_bytes little_bytes in omega (arith, number_small x)

  module _ (answer after : List ℕ) (r : ℕ) where
    tells-lent : Wrote answer 0 bytes after r → ToldInC true n x answer after r
    tells-lent w =
        record {
          nothing = λ e. let k = kept-short w (omega (arith, long, leb-false n (length answer) (sym (and-true (has_room n answer)) ∙ e))) in (k.1, k.0);
          all = λ e. (room e).1 ∙ omega (arith, long);
          number = λ e. ap (λ (l : List ℕ). byte_at l 0) (room e).0 ∙ front_at answer bytes 0 0 (omega (arith, roomy)) ∙ number_is;
          front =
              λ e.
              ap (take answer_size) (room e).0
              ∙ front-take answer bytes answer_size roomy
              ∙ ap (take answer_size) parted
              ∙ take_at (layout_bytes (answer_fields x)) (layout_bytes s.rest) answer_size part-long;
          behind = kept-behind w n (omega (arith, long));
        }
      where
        room : (has_room n answer && true) ≡ true → (after ≡ over answer 0 bytes) × (r ≡ 0 + length bytes)
        room e = kept-room w (omega (arith, long, leb-true n (length answer) (and_left (has_room n answer) true e)))

    tells-unlent : Wrote answer 0 [] after r → ToldInC false n x answer after r
    tells-unlent w =
        record {
          nothing = λ e. (k.1, same);
          all = λ e. never e;
          number = λ e. never e;
          front = λ e. never e;
          behind = ap (drop n) same;
        }
      where
        k : (after ≡ over answer 0 []) × (r ≡ 0 + 0)
        k = kept-room w (omega arith)

        same : after ≡ answer
        same = k.0 ∙ over_none answer 0

        never : {P : Type 0} → (has_room n answer && false) ≡ true → P
        never e = absurd (never_both refl (and_right (has_room n answer) false e))

    tells : (lent : Bool) → Wrote answer 0 (told_if lent bytes) after r → ToldInC lent n x answer after r
    tells true w = tells-lent w
    tells false w = tells-unlent w

-- the layouts

told-starts :
    {A : Type 0} (fields : A → List Field) (w n : ℕ) (r : Result A Refusal)
    → size_of (told_fields fields w r) ≡ n
    → StartsWith n (answer_in r) (told_fields fields w r)
told-starts fields w n r h = record { rest = place_fields fields (little w 0 ∷ []) (result_ok r); front = refl; size = h }

trailer-starts : (t : Result PageTrailer Refusal) → StartsWith trailer_size (answer_in t) (trailer_fields t)
trailer-starts t = told-starts record_fields record_size trailer_size t (told-size record_fields record_size record-size t)

integrity-starts : (x : Answer) → StartsWith answer_size x (answer_fields x)
integrity-starts x = record { rest = []; front = sym (append-nil (answer_fields x)); size = answer-size x }

superblock-starts : (s : Result Superblock Refusal) → StartsWith superblock_size (answer_in s) (superblock_fields s)
superblock-starts s = told-starts header_fields header_size superblock_size s (told-size header_fields header_size header-size s)

scan-starts : (s : Result (List Fit) Refusal) → StartsWith scan_size (answer_in s) (scan_fields s)
scan-starts s = told-starts fits_fields fits_size scan_size s (told-size fits_fields fits_size fits-size s)

replacement-starts : (lent : List Fit) (made : Result (List Fit) Refusal) → StartsWith scan_size (answer_in made) (replacement_fields lent made)
unfolding replacement_fields
replacement-starts lent made = record { rest = fits_fields (result_unwrap_or made lent); front = refl; size = replacement-size lent made }

decoding-starts : (d : Result Decoding Refused) → StartsWith decoding_size (refused_answer d) (decoding_fields d)
decoding-starts d = record { rest = beside_fields d; front = refl; size = decoding-size d }

parse-starts : (p : Result Parsed Refusal) → StartsWith parse_size (answer_in p) (parse_fields p)
unfolding parsed_fields
parse-starts p =
    let q : Parsed = result_unwrap_or p nothing_parsed in
    let d : SlotDirectory = unwrap_or q.directory no_directory in
    let head : List Field = directory_fields (is_some q.directory) d in
    let warnings : List Field = little 2 q.warnings.len ∷ warnings_fields q.warnings.items 3 in
    record {
      rest = head ++ slots_fields d.slots ++ warnings;
      front =
          ap (λ (fs : List Field). fs ++ warnings) (append_assoc (answer_fields (answer_in p)) head (slots_fields d.slots))
          ∙ append_assoc (answer_fields (answer_in p)) (head ++ slots_fields d.slots) warnings;
      size = parse-size p;
    }

row-count-starts : (x : Answer) (n : ℕ) → StartsWith row_count_size x (row_count_fields x n)
unfolding row_count_fields
row-count-starts x n = record { rest = _; front = refl; size = row-count-size x n }

row-starts : (x : Answer) (s : Option Span) → StartsWith row_size x (row_fields x s)
unfolding row_fields
row-starts x s = record { rest = _; front = refl; size = row-size x s }

rows-starts : (x : Answer) (rows : List ℕ) → StartsWith rows_size x (rows_fields x rows)
unfolding rows_fields
rows-starts x rows = record { rest = list_fields rows; front = refl; size = rows-size x rows }

-- the other buffers

keeps :
    (lent : Bool) (n : ℕ) (x : Answer) (answer old new after : List ℕ)
    → after ≡ pick (has_room n answer && lent) new old
    → (is_accepted x ≡ false → new ≡ old)
    → Keeps lent n x answer old after
keeps lent n x answer old new after e q = record { kept = λ h. e ∙ go (has_room n answer && lent) h }
  where
    go : (b : Bool) → (b && is_accepted x) ≡ false → pick b new old ≡ old
    go true h = q h
    go false h = refl

scan-told :
    (number : ℕ) (stored shifted shifted_at_exit answer answer_at_exit : List ℕ) (r : ℕ)
    → ScanCall number stored shifted shifted_at_exit answer answer_at_exit r
    → let x : Answer = answer_in (page_scan_of number stored (length shifted)) in
    ToldInC true scan_size x answer answer_at_exit r × Keeps true scan_size x answer shifted shifted_at_exit
scan-told number stored shifted shifted_at_exit answer answer_at_exit r c =
    let p : Result (List Fit) Refusal = page_scan_of number stored (length shifted) in (
      tells-lent (scan-starts p) answer answer_at_exit r c.told,
      keeps true scan_size (answer_in p) answer shifted (scanned number stored shifted) shifted_at_exit
          (c.bytes ∙ ap (λ (b : Bool). pick b (scanned number stored shifted) shifted) (sym (and-true (has_room scan_size answer))))
          (λ e. (refusals-silent.scan number stored shifted e).1),
    )

replaced-answer :
    (number s : ℕ) (new : List ℕ) (n m : ℕ) (fits : List Fit) → answer_in (replaced number s new n m fits) ≡ replace_answer s new n m
unfolding replaced
replaced-answer number s new n m fits = ok-answer _ (replace_answer s new n m)

replacement-told :
    (number s : ℕ) (new fits stored stored_at_exit shifted shifted_at_exit answer answer_at_exit : List ℕ) (r : ℕ)
    → ReplaceCall number s new fits stored stored_at_exit shifted shifted_at_exit answer answer_at_exit r
    → let x : Answer = replace_answer s new (length stored) (length shifted) in
    ToldInC (is_lent fits) scan_size x answer answer_at_exit r
    × Keeps (is_lent fits) scan_size x answer stored stored_at_exit
    × Keeps (is_lent fits) scan_size x answer shifted shifted_at_exit
replacement-told number s new fits stored stored_at_exit shifted shifted_at_exit answer answer_at_exit r c =
    let made : Result (List Fit) Refusal = replaced number s new (length stored) (length shifted) (fits_in fits) in
    let x : Answer = replace_answer s new (length stored) (length shifted) in
    let is : answer_in made ≡ x = replaced-answer number s new (length stored) (length shifted) (fits_in fits) in
    let quiet = refusals-silent.replacement number s new stored shifted (fits_in fits) in
    let refused : is_accepted x ≡ false → is_accepted (answer_in made) ≡ false = λ e. ap (λ (y : Answer). is_accepted y) is ∙ e in (
      subst (λ (y : Answer). ToldInC (is_lent fits) scan_size y answer answer_at_exit r) is
          (tells (replacement-starts (fits_in fits) made) answer answer_at_exit r (is_lent fits) c.told),
      keeps (is_lent fits) scan_size x answer stored (stored_after s new stored (length shifted)) stored_at_exit c.page (λ e. (quiet (refused e)).1),
      keeps (is_lent fits) scan_size x answer shifted (shifted_after number s new (length stored) shifted) shifted_at_exit c.bytes (λ e. (quiet (refused e)).2),
    )

unwritten :
    (d : Result Decoding Refused) (stored shifted out : List ℕ) → is_accepted (refused_answer d) ≡ false → written_of d stored shifted out ≡ out
unfolding written_of
unwritten (Ok x) stored shifted out e = absurd (never_both e refl)
unwritten (Err x) stored shifted out e = refl

decoding-told :
    (lent : Bool) (d : Result Decoding Refused) (stored shifted out out_at_exit answer answer_at_exit : List ℕ) (r : ℕ)
    → DecodingCall lent d stored shifted out out_at_exit answer answer_at_exit r
    → ToldInC lent decoding_size (refused_answer d) answer answer_at_exit r
    × Keeps lent decoding_size (refused_answer d) answer out out_at_exit
decoding-told lent d stored shifted out out_at_exit answer answer_at_exit r c = (
  tells (decoding-starts d) answer answer_at_exit r lent c.told,
  keeps lent decoding_size (refused_answer d) answer out (written_of d stored shifted out) out_at_exit c.plain (unwritten d stored shifted out),
)

row-count-told :
    (number : ℕ) (plain : List ℕ) (leniency limit : ℕ) (answer answer_at_exit : List ℕ) (r : ℕ)
    → Wrote answer 0 (row_count_told number plain leniency limit) answer_at_exit r
    → ToldInC true row_count_size (answer_in (parsed_of limit number plain (has_directory leniency))) answer answer_at_exit r
row-count-told number plain leniency limit answer answer_at_exit r w =
    subst (λ (x : Answer). ToldInC true row_count_size x answer answer_at_exit r)
    (counted_answer limit number plain (parsed_of limit number plain (has_directory leniency)) _)
    (tells-lent (row-count-starts _ _) answer answer_at_exit r w)

pub calls-answered : CallsAnswered
calls-answered =
    record {
      trailer = λ stored. tells-lent (trailer-starts (trailer_answer stored));
      integrity = λ number stored. tells-lent (integrity-starts (integrity_of number stored));
      superblock = λ stored. tells-lent (superblock-starts (superblock_answer stored));
      checked = λ stored. tells-lent (superblock-starts (checked_superblock stored));
      scan = scan-told;
      replacement = replacement-told;
      decoding = decoding-told;
      parse = λ number plain leniency limit. tells-lent (parse-starts (parsed_of limit number plain (has_directory leniency)));
      row_count = row-count-told;
      row = λ number plain leniency limit k. tells-lent (row-starts _ _);
      rows = λ number plain leniency limit. tells-lent (rows-starts _ _);
    }
