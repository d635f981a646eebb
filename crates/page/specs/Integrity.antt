-- Document 01, "Page, trailer, superblock" and "Answer numbers": unallocated pages, and answers 1, 3 and 4. Assumes nothing.
use Rattle.std.specs.Prelude.{ℕ, Bool, true, false, not, List, Some, None, eqb, length, take}
use Rattle.lists.specs.Cases.{pick}
use Rattle.lists.specs.Counts.{all_are}
use Rattle.checksum.specs.V42.{crc32_of}
use Rattle.answers.specs.declared.kinds.Refusal.TheVariants.{WrongPageLength, BadCrc, BadTrailer}
use Rattle.answers.specs.Answers.{Answer}
use Rattle.page.specs.Trailer.{is_page, stored_crc, reserved_zero_of}

-- unallocated: all 4,096 bytes are zero
unfoldable pub is_unallocated : List ℕ → Bool
is_unallocated s = pick (is_page s) (all_are 0 s) false

-- the CRC of the first 4,092 bytes
abbrev pub computed_crc : List ℕ → ℕ
computed_crc s = crc32_of (take 4092 s)

-- the reserved bytes are zero, except on page 0
abbrev pub trailer_holds : ℕ → List ℕ → Bool
trailer_holds number s = pick (eqb number 0) true (reserved_zero_of s)

-- of a page that was written, in this order: 1, 3, 4
unfoldable pub written_integrity : ℕ → List ℕ → Answer
written_integrity number s =
    pick (not (is_page s)) (Some (WrongPageLength (length s)))
    (pick (not (eqb (stored_crc s) (computed_crc s))) (Some (BadCrc number (stored_crc s) (computed_crc s)))
    (pick (not (trailer_holds number s)) (Some (BadTrailer number)) None))

-- of any page: an unallocated one is accepted
unfoldable pub integrity_of : ℕ → List ℕ → Answer
integrity_of number s = pick (is_unallocated s) None (written_integrity number s)
