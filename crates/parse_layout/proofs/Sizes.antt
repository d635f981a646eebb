-- How many bytes the layout of a parse takes, whatever it holds. Assumes nothing.
use Rattle.std.proofs.Common.{Result, Bool, true, false, Option, Some, None, unwrap_or}
use Prim.Native.Nat.{ℕ, ◌+◌}
use mathlib.Core.Path.{◌≡◌, refl}
use mathlib.Core.List.{List}
use native.Mathlib.Omega.{arith}
use Rattle.answers.specs.Answers.{Answer}
use Rattle.answers.specs.declared.kinds.Refusal.{Refusal}
use Rattle.directory.specs.Directory.{slots_of}
use Rattle.slotted.specs.Parses.{table_of}
use Rattle.directory.specs.declared.verdicts.Listed.{Listed}
use Rattle.slotted.specs.declared.directories.Parsed.{Parsed}
use Rattle.fields.specs.Fields.{width_of, size_of}
use Rattle.fields.proofs.Sizes.{size-append}
use Rattle.parts.specs.Parts.{slots_size}
use Rattle.parts.proofs.Sizes.{answer-size, warnings-size, slots-size}
use Rattle.parse_layout.specs.ParseLayouts.{directory_fields, no_directory, told_fields, parse_fields, parse_size}
use Rattle.parse_layout.specs.FromPage.{listed_fields, found_fields, listed_or_zeros}

pub listed-size : (found : Bool) (l : Listed) → size_of (listed_fields found l) ≡ 10
unfolding listed_fields size_of width_of
listed-size found l = refl

pub found-size : (plain : List ℕ) (found : Bool) (l : Listed) → size_of (found_fields plain found l) ≡ 10 + slots_size
unfolding found_fields
found-size plain found l = simp size-append (omega (arith, listed-size found l, slots-size (table_of (slots_of plain l.start l.count))))

pub listed-long : (plain : List ℕ) (o : Option Listed) → size_of (listed_or_zeros plain o) ≡ 10 + slots_size
listed-long plain (Some l) = found-size plain true l
listed-long plain None = found-size plain false _

pub told-size : (x : Answer) (p : Parsed) → size_of (told_fields x p) ≡ parse_size
unfolding told_fields directory_fields size_of width_of
told-size x p =
    simp size-append (omega (arith, answer-size x, slots-size (unwrap_or p.directory no_directory).slots, warnings-size p.warnings.items 3))

pub parse-size : (p : Result Parsed Refusal) → size_of (parse_fields p) ≡ parse_size
parse-size p = told-size _ _
