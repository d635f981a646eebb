-- Document 01, "Page, trailer, superblock": a page's length, and the trailer, its last 16 bytes. Assumes nothing.
use Rattle.std.specs.Prelude.{ℕ, ◌+◌, Bool, not, List, [], ◌∷◌, Result, Ok, Err, eqb, length}
use Rattle.lists.specs.Cases.{pick}
use Rattle.lists.specs.Bytes.{byte_at, quad_at}
use Rattle.lists.specs.Counts.{all_are}
use Rattle.answers.specs.declared.kinds.Refusal.{Refusal}
use Rattle.answers.specs.declared.kinds.Refusal.TheVariants.{WrongPageLength}
use Rattle.page_type.specs.Types.{is_variant, type_of}
use Rattle.page.specs.declared.trailers.PageTrailer.{PageTrailer}

-- a page is 4,096 bytes
abbrev pub is_page : List ℕ → Bool
is_page stored = eqb (length stored) 4096

-- the data is 0 to 0xFEF; here the trailer starts
abbrev pub trailer_at : ℕ
trailer_at = 0xFF0

-- the row count: trailer byte 0
abbrev pub row_count_of : List ℕ → ℕ
row_count_of stored = byte_at stored trailer_at

-- the type: trailer byte 2
abbrev pub type_byte : List ℕ → ℕ
type_byte stored = byte_at stored (trailer_at + 2)

-- the LSN: trailer bytes 4 to 7, the least first
abbrev pub lsn_of : List ℕ → ℕ
lsn_of stored = quad_at stored (trailer_at + 4)

-- the CRC: trailer bytes 12 to 15, the least first
abbrev pub stored_crc : List ℕ → ℕ
stored_crc stored = quad_at stored (trailer_at + 12)

-- the reserved bytes, trailer bytes 3 and 8 to 11, are zero
unfoldable pub reserved_zero_of : List ℕ → Bool
reserved_zero_of stored =
    all_are 0
    (byte_at stored (trailer_at + 3)
    ∷ byte_at stored (trailer_at + 8)
    ∷ byte_at stored (trailer_at + 9)
    ∷ byte_at stored (trailer_at + 10)
    ∷ byte_at stored (trailer_at + 11)
    ∷ [])

-- the record of a page's trailer
unfoldable pub trailer_of : List ℕ → PageTrailer
trailer_of stored =
    record {
      row_count = row_count_of stored;
      page_type = type_of (type_byte stored);
      case_variant = is_variant (type_byte stored);
      lsn = lsn_of stored;
      crc = stored_crc stored;
      reserved_zero = reserved_zero_of stored;
    }

-- 1 with the length; else the record
unfoldable pub trailer_answer : List ℕ → Result PageTrailer Refusal
trailer_answer stored = pick (not (is_page stored)) (Err (WrongPageLength (length stored))) (Ok (trailer_of stored))
