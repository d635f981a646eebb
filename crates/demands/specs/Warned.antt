-- THE WARNINGS OF AN ACCEPTED PAGE: "Warnings: integrity, choice, sectors ascending", from its own scan or from any summary, and none is lost. A bv that is let
-- through is marked with a warning (meanings/Sources), which so stands in the answer. Assumes nothing.
use Rattle.std.specs.Prelude.{ℕ, ◌+◌, ◌≤◌, ◌≡◌, Bool, true, false, not, is_some, Ok, List}
use Rattle.lists.specs.Cases.{pick, flag}
use Rattle.lists.specs.Counts.{how_many}
use Rattle.answers.specs.Settings.{keystream}
use Rattle.answers.specs.Tables.{empty}
use Rattle.answers.specs.Warns.{Warnings}
use Rattle.answers.specs.declared.settings.Options.{Options}
use Rattle.sector.specs.Fit.{confident_of}
use Rattle.sector.specs.declared.fits.Fit.{Fit}
use Rattle.page.specs.Integrity.{integrity_of, is_unallocated}
use Rattle.choice.specs.declared.Choice.{Choice}
use Rattle.verdict.specs.declared.Decoding.{Decoding}
use Rattle.verdict.specs.Sectors.{entry, sector_warnings}
use Rattle.verdict.specs.Verdict.{warning_noted, integrity_warning}
use Rattle.decode.specs.Decode.{decoding_of, supplied_decoding_of}

-- behind the warnings ws: that of the choice, if it has one, and under KEYSTREAM one for each sector that is not confident
unfoldable pub warnings_after : ℕ → Bool → List Fit → Choice → Warnings → Warnings
warnings_after number lenient fits c ws =
    pick lenient (sector_warnings number fits (warning_noted number c.warned ws) 8) (warning_noted number c.warned ws)

-- whether a choice warns; the sectors in doubt among the first n
abbrev pub warns : Choice → Bool
warns c = is_some c.warned

abbrev pub in_doubt : List Fit → ℕ → ℕ
in_doubt fits n = how_many (λ s. not (confident_of (entry fits s))) n

pub record Warned : Type 0 where
  pub decoding :
      (number : ℕ) (stored : List ℕ) (fits : List Fit) (shifted anchors : List ℕ) (o : Options) (m : ℕ)
      → is_unallocated stored ≡ false
      → (d : Decoding)
      → decoding_of number stored fits shifted anchors o m ≡ Ok d
      → d.warnings ≡ warnings_after number (keystream o) d.fits d.choice (warning_noted number (integrity_warning (integrity_of number stored)) empty)
  -- a supplied bv: no integrity warning
  pub supplied :
      (number bv : ℕ) (stored : List ℕ) (fits : List Fit) (shifted : List ℕ) (o : Options) (m : ℕ)
      → is_unallocated stored ≡ false
      → (d : Decoding)
      → supplied_decoding_of number bv stored fits shifted o m ≡ Ok d
      → d.warnings ≡ warnings_after number (keystream o) d.fits d.choice empty
  -- under KEYSTREAM, behind one warning at most, every one has its place in the table
  pub placed :
      (number : ℕ) (fits : List Fit) (c : Choice) (ws : Warnings)
      → ws.len ≤ 1
      → (warnings_after number true fits c ws).len ≡ ws.len + flag (warns c) + in_doubt fits 8
