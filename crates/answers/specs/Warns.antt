-- The warnings: each has the number of the answer of its kind. It is the answer that a strict reading gives, but for row counts 1 to 3 with several
-- starts, where that is 8 and the warning 11. Assumes nothing.
use Rattle.std.specs.Prelude.{ℕ, List, [], ◌∷◌}
use Rattle.answers.specs.declared.notices.WarningKind.{WarningKind}
use Rattle.answers.specs.declared.notices.WarningKind.TheVariants as warning
use Rattle.answers.specs.declared.notices.Warning.{Warning}
use Rattle.answers.specs.declared.tables.Table.{Table}
use Rattle.answers.specs.Tables.{with_item}

abbrev pub warning_number : WarningKind → ℕ
warning_number warning.BadCrc = 3
warning_number warning.BadTrailer = 4
warning_number (warning.AmbiguousCalibration chosen) = 5
warning_number (warning.UnverifiedKeystream bv) = 6
warning_number (warning.LowConfidenceSector sector peak runner) = 7
warning_number warning.UnverifiedDirectory = 8
warning_number warning.UnknownPrelude = 9
warning_number (warning.SlotDirectoryTruncated found expected) = 10
warning_number warning.AmbiguousSlotDirectory = 11
warning_number (warning.SlotOffsetsInDirectory dropped) = 12

-- the values that stand beside the page number
abbrev pub warning_values : WarningKind → List ℕ
warning_values warning.BadCrc = []
warning_values warning.BadTrailer = []
warning_values (warning.AmbiguousCalibration chosen) = chosen ∷ []
warning_values (warning.UnverifiedKeystream bv) = bv ∷ []
warning_values (warning.LowConfidenceSector sector peak runner) = sector ∷ peak ∷ runner ∷ []
warning_values warning.UnverifiedDirectory = []
warning_values warning.UnknownPrelude = []
warning_values (warning.SlotDirectoryTruncated found expected) = found ∷ expected ∷ []
warning_values warning.AmbiguousSlotDirectory = []
warning_values (warning.SlotOffsetsInDirectory dropped) = dropped ∷ []

-- the warnings of a decoding, ten at most, and those of a parse
abbrev pub Warnings : Type 0
Warnings = Table Warning 10

abbrev pub ParseWarnings : Type 0
ParseWarnings = Table Warning 1026

-- one warning more of a page; a full table stays as it is
abbrev pub with_warning : {n : ℕ} → Table Warning n → ℕ → WarningKind → Table Warning n
with_warning t page kind = with_item t (record { page = page; kind = kind })
