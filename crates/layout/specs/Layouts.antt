-- The layouts of what is told of a stored page, each a list of fields, and how many bytes each takes. Assumes nothing.
use Rattle.std.specs.Prelude.{ℕ, ◌+◌, ◌-◌, ◌*◌, List, [], ◌∷◌, ◌++◌, Result, Ok, Err}
use Rattle.std.specs.Result.{result_ok, result_unwrap_or}
use Rattle.lists.specs.Cases.{flag}
use Rattle.answers.specs.Trust.{source_number, confidence_number}
use Rattle.answers.specs.Answers.{Answer, answer_in}
use Rattle.answers.specs.declared.kinds.Refusal.{Refusal}
use Rattle.page_type.specs.Types.{byte_of}
use Rattle.page_type.specs.declared.PageType.{PageType}
use Rattle.page_type.specs.declared.PageType.TheVariants.{Extent, Alloc, Map, Header, Catalog, Bootstrap, Index, Other}
use Rattle.page.specs.declared.trailers.PageTrailer.{PageTrailer}
use Rattle.page.specs.declared.superblocks.Superblock.{Superblock}
use Rattle.choice.specs.Rules.{refused_answer}
use Rattle.choice.specs.declared.Choice.{Choice}
use Rattle.choice.specs.declared.Refused.{Refused}
use Rattle.verdict.specs.declared.Decoding.{Decoding}
use Rattle.sector.specs.declared.fits.Fit.{Fit}
use Rattle.fields.specs.Fields.{Field, little, layout_bytes}
use Rattle.parts.specs.Parts.{answer_size, answer_fields, place_fields, fits_size, fits_fields, bvs_size, bvs_fields, ground_size, grounds_fields, warning_size, warnings_fields}

-- it changes with every layout, and with what a function takes
abbrev pub layout_version : ℕ
layout_version = 4

-- the answer part, and behind it what was asked for; beside a refusal, zeros of that width, in one field
abbrev pub told_fields : {A : Type 0} → (A → List Field) → ℕ → Result A Refusal → List Field
told_fields fields n r = answer_fields (answer_in r) ++ place_fields fields (little n 0 ∷ []) (result_ok r)

-- integrity: the answer part alone
abbrev pub integrity_bytes : Answer → List ℕ
integrity_bytes x = layout_bytes (answer_fields x)

-- ---- trailer

-- a page type's number; Other has 0
abbrev pub type_number : PageType → ℕ
type_number Extent = 1
type_number Alloc = 2
type_number Map = 3
type_number Header = 4
type_number Catalog = 5
type_number Bootstrap = 6
type_number Index = 7
type_number (Other b) = 0

-- row count, type byte, type, case variant, LSN, stored CRC, reserved bytes zero
unfoldable pub record_fields : PageTrailer → List Field
record_fields t =
    little 1 t.row_count
    ∷ little 1 (byte_of t.page_type)
    ∷ little 1 (type_number t.page_type)
    ∷ little 1 (flag t.case_variant)
    ∷ little 4 t.lsn
    ∷ little 4 t.crc
    ∷ little 1 (flag t.reserved_zero)
    ∷ []

abbrev pub record_size : ℕ
record_size = 13

abbrev pub trailer_fields : Result PageTrailer Refusal → List Field
trailer_fields t = told_fields record_fields record_size t

abbrev pub trailer_size : ℕ
trailer_size = answer_size + record_size

abbrev pub trailer_bytes : Result PageTrailer Refusal → List ℕ
trailer_bytes t = layout_bytes (trailer_fields t)

-- ---- superblock

-- flags, variant bits, LSN, major, a, b, magic, page hint, marker
unfoldable pub header_fields : Superblock → List Field
header_fields s =
    little 1 s.flags_06
    ∷ little 1 s.flags_06_variant_bits
    ∷ little 4 s.current_lsn
    ∷ little 4 s.format.major
    ∷ little 2 s.format.a
    ∷ little 2 s.format.b
    ∷ little 4 s.magic
    ∷ little 4 s.page_count_hint
    ∷ little 1 (flag s.sa_marker_present)
    ∷ []

abbrev pub header_size : ℕ
header_size = 23

abbrev pub superblock_fields : Result Superblock Refusal → List Field
superblock_fields s = told_fields header_fields header_size s

abbrev pub superblock_size : ℕ
superblock_size = answer_size + header_size

abbrev pub superblock_bytes : Result Superblock Refusal → List ℕ
superblock_bytes s = layout_bytes (superblock_fields s)

-- ---- scan and replacement: the answer part, eight fits

abbrev pub scan_size : ℕ
scan_size = answer_size + fits_size

abbrev pub scan_fields : Result (List Fit) Refusal → List Field
scan_fields s = told_fields fits_fields fits_size s

abbrev pub scan_bytes : Result (List Fit) Refusal → List ℕ
scan_bytes s = layout_bytes (scan_fields s)

-- beside a refused replacement stand the fits that were lent
unfoldable pub replacement_fields : List Fit → Result (List Fit) Refusal → List Field
replacement_fields lent made = answer_fields (answer_in made) ++ fits_fields (result_unwrap_or made lent)

abbrev pub replacement_bytes : List Fit → Result (List Fit) Refusal → List ℕ
replacement_bytes lent made = layout_bytes (replacement_fields lent made)

-- ---- decoding

-- a choice: values of bv, then bv, source, confidence, how much evidence, four places
unfoldable pub choice_fields : Choice → List Field
choice_fields c =
    bvs_fields c.others
    ++ (little 1 c.bv
    ∷ little 1 (source_number c.source)
    ∷ little 1 (confidence_number c.confidence)
    ∷ little 1 c.grounds.len
    ∷ grounds_fields c.grounds.items)

abbrev pub choice_size : ℕ
choice_size = bvs_size + 4 + 4 * ground_size

-- what stands behind the answer part: the choice, eight fits, how many warnings, ten places; of a refusal its candidates, and zeros
unfoldable pub decoded_fields : Decoding → List Field
decoded_fields d = choice_fields d.choice ++ (fits_fields d.fits ++ (little 1 d.warnings.len ∷ warnings_fields d.warnings.items 10))

abbrev pub decoded_size : ℕ
decoded_size = choice_size + fits_size + 1 + 10 * warning_size

unfoldable pub refused_fields : Refused → List Field
refused_fields e = bvs_fields e.candidates ++ (little (decoded_size - bvs_size) 0 ∷ [])

abbrev pub beside_fields : Result Decoding Refused → List Field
beside_fields (Ok d) = decoded_fields d
beside_fields (Err e) = refused_fields e

abbrev pub decoding_fields : Result Decoding Refused → List Field
decoding_fields r = answer_fields (refused_answer r) ++ beside_fields r

abbrev pub decoding_size : ℕ
decoding_size = answer_size + decoded_size

abbrev pub decoding_bytes : Result Decoding Refused → List ℕ
decoding_bytes r = layout_bytes (decoding_fields r)
