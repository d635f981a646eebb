-- The options of a reading: the leniency bits, T, and the search limit. Assumes nothing.
use Rattle.std.specs.Prelude.{ℕ, Bool, ◌&&◌, leb}
use Rattle.lists.specs.Bytes.{has_bit}
use Rattle.answers.specs.declared.settings.Leniency.{Leniency}
use Rattle.answers.specs.declared.settings.Options.{Options}

abbrev pub leniency_of : ℕ → Leniency
leniency_of bits = record { bits = bits }

abbrev pub options_of : ℕ → ℕ → ℕ → Options
options_of bits t lim = record { leniency = leniency_of bits; min_trailer_count = t; search_limit = lim }

-- "by default the commit's value": T where none is given, as verify.rs's MIN_TRAILER_COUNT has it
abbrev pub min_trailer_count_of : ℕ
min_trailer_count_of = 4

-- "from each start 0 to 0x2FF", "a field 0 to 0x2FF": the limit where none is given, as slotted.rs's SEARCH_LIMIT has it
abbrev pub search_limit_of : ℕ
search_limit_of = 768

-- a reading that relaxes nothing
abbrev pub strict_options : Options
strict_options = options_of 0 min_trailer_count_of search_limit_of

-- request #109, "an option from 8 to 2,048": both ends are limits that a reading takes
unfoldable pub limit_fits : ℕ → Bool
limit_fits lim = leb 8 lim && leb lim 2048

-- "KEYSTREAM (value 1)", "DIRECTORY (value 2)", "INTEGRITY (value 4)": the bits that relax a check
abbrev pub has_keystream : ℕ → Bool
has_keystream bits = has_bit bits 1

abbrev pub has_directory : ℕ → Bool
has_directory bits = has_bit bits 2

abbrev pub has_integrity : ℕ → Bool
has_integrity bits = has_bit bits 4

-- what a reading's options relax
abbrev pub keystream : Options → Bool
keystream o = has_keystream o.leniency.bits

abbrev pub directory : Options → Bool
directory o = has_directory o.leniency.bits

abbrev pub integrity : Options → Bool
integrity o = has_integrity o.leniency.bits
