-- Document 01, "Page, trailer, superblock": the page type, a case that may carry its byte. Assumes nothing.
use Rattle.std.specs.Prelude.{ℕ, ◌-◌, Bool, false, eqb, leb}
use Rattle.lists.specs.Cases.{pick}
use Rattle.page_type.specs.declared.PageType.{PageType}
use Rattle.page_type.specs.declared.PageType.TheVariants.{Extent, Alloc, Map, Header, Catalog, Bootstrap, Index, Other}

-- the bytes 0x61 to 0x7A, a to z, are case variants, and no other
abbrev pub is_variant : ℕ → Bool
is_variant b = pick (leb 0x61 b) (leb b 0x7A) false

-- a variant stands for its upper-case letter
unfoldable pub upper_of : ℕ → ℕ
upper_of b = pick (is_variant b) (b - 0x20) b

-- E, A, M, H, C, @ and I have a case of their own; any other letter leaves the byte as it was
unfoldable pub letter_of : ℕ → ℕ → PageType
letter_of letter b =
    pick (eqb letter 0x45) Extent
    (pick (eqb letter 0x41) Alloc
    (pick (eqb letter 0x4D) Map
    (pick (eqb letter 0x48) Header
    (pick (eqb letter 0x43) Catalog (pick (eqb letter 0x40) Bootstrap (pick (eqb letter 0x49) Index (Other b)))))))

-- the type of a type byte, in either letter case
abbrev pub type_of : ℕ → PageType
type_of b = letter_of (upper_of b) b

-- written back: the upper-case letter, or the byte that Other kept
abbrev pub byte_of : PageType → ℕ
byte_of Extent = 0x45
byte_of Alloc = 0x41
byte_of Map = 0x4D
byte_of Header = 0x48
byte_of Catalog = 0x43
byte_of Bootstrap = 0x40
byte_of Index = 0x49
byte_of (Other b) = b
