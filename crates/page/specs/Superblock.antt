-- Document 01, "Page, trailer, superblock": the fields of page 0, read plainly and checked. Assumes nothing.
use Rattle.std.specs.Prelude.{ℕ, ◌-◌, Bool, false, not, List, [], ◌∷◌, Result, Ok, Err, eqb, length}
use Rattle.std.specs.Int.Bits.{bit_and}
use Rattle.lists.specs.Cases.{pick}
use Rattle.lists.specs.Bytes.{byte_at, pair_at, quad_at}
use Rattle.marker.specs.Marker.{occurs_in}
use Rattle.answers.specs.declared.kinds.Refusal.{Refusal}
use Rattle.answers.specs.declared.kinds.Refusal.TheVariants.{WrongPageLength, BadMagic}
use Rattle.page.specs.Trailer.{is_page}
use Rattle.page.specs.declared.superblocks.FormatVersion.{FormatVersion}
use Rattle.page.specs.declared.superblocks.Superblock.{Superblock}

-- the supported version, 3.201.12
abbrev pub sa17 : FormatVersion
sa17 = record { major = 3; a = 201; b = 12 }

-- a version is supported if it is that one
abbrev pub is_supported : FormatVersion → Bool
is_supported v = pick (eqb v.major sa17.major) (pick (eqb v.a sa17.a) (eqb v.b sa17.b) false) false

-- the flags without 0x09
abbrev pub variant_bits : ℕ → ℕ
variant_bits flags = bit_and flags (255 - 0x09)

-- the magic, at 0x14
abbrev pub magic_of : List ℕ → ℕ
magic_of stored = quad_at stored 0x14

-- the 33 bytes "SAP SE, Copyright (c)2015 17.0.4."
abbrev pub marker : List ℕ
marker =
    0x53 ∷ 0x41 ∷ 0x50 ∷ 0x20 ∷ 0x53 ∷ 0x45 ∷ 0x2C ∷ 0x20
    ∷ 0x43 ∷ 0x6F ∷ 0x70 ∷ 0x79 ∷ 0x72 ∷ 0x69 ∷ 0x67 ∷ 0x68 ∷ 0x74 ∷ 0x20 ∷ 0x28 ∷ 0x63 ∷ 0x29
    ∷ 0x32 ∷ 0x30 ∷ 0x31 ∷ 0x35 ∷ 0x20 ∷ 0x31 ∷ 0x37 ∷ 0x2E ∷ 0x30 ∷ 0x2E ∷ 0x34 ∷ 0x2E ∷ []

-- flags byte 6, LSN at 8, major 0x10, magic 0x14, version halves 0x18 and 0x1A, page hint 0x1C, and the marker anywhere
unfoldable pub superblock_of : List ℕ → Superblock
superblock_of stored =
    record {
      flags_06 = byte_at stored 0x06;
      flags_06_variant_bits = variant_bits (byte_at stored 0x06);
      current_lsn = quad_at stored 0x08;
      format = record { major = quad_at stored 0x10; a = pair_at stored 0x18; b = pair_at stored 0x1A };
      magic = magic_of stored;
      page_count_hint = quad_at stored 0x1C;
      sa_marker_present = occurs_in marker stored;
    }

-- plainly: 1
unfoldable pub superblock_answer : List ℕ → Result Superblock Refusal
superblock_answer stored = pick (not (is_page stored)) (Err (WrongPageLength (length stored))) (Ok (superblock_of stored))

-- checked: 1, then 13 with any magic but 0xDA7ABA5E
unfoldable pub checked_superblock : List ℕ → Result Superblock Refusal
checked_superblock stored =
    pick (not (is_page stored)) (Err (WrongPageLength (length stored)))
    (pick (not (eqb (magic_of stored) 0xDA7ABA5E)) (Err (BadMagic (magic_of stored))) (Ok (superblock_of stored)))
