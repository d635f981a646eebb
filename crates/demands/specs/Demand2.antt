-- DEMAND 2: of an accepted page that is not all zero and read by its own scan, every stored data byte is the byte written, with the sector's
-- offset, the place in the sector times the sector's step, and bv, modulo 256; each step is the smallest with the largest modal count; the
-- trailer is copied; peaks, runner-ups, ties and the zero mass are those of the page. Assumes nothing.
use Rattle.std.specs.Prelude.{ℕ, ◌+◌, ◌-◌, ◌*◌, ◌%◌, ◌≤◌, ◌<◌, ◌≡◌, true, false, Option, Some, None, Result, Ok, List, eqb, length, get_or, take, drop}
use Rattle.lists.specs.Bytes.{byte_at, AllBytes}
use Rattle.lists.specs.Counts.{count, how_many, all_same}
use Rattle.lists.specs.Pieces.{each}
use Rattle.answers.specs.Trust.{Grounds}
use Rattle.answers.specs.declared.settings.Options.{Options}
use Rattle.answers.specs.declared.trust.Evidence.{Evidence}
use Rattle.answers.specs.declared.trust.Evidence.TheVariants as evidence
use Rattle.answers.specs.declared.trust.Source.TheVariants as source
use Rattle.sector.specs.Byte.{offset_of}
use Rattle.sector.specs.Fit.{shifted_list, modal_at}
use Rattle.sector.specs.Sorted.{sorted_down}
use Rattle.sector.specs.declared.fits.Fit.{Fit}
use Rattle.page.specs.Trailer.{row_count_of}
use Rattle.page.specs.Integrity.{is_unallocated}
use Rattle.summary.specs.Page.{sector_end, part, fits_of, bytes_of}
use Rattle.slots.specs.Slots.{page_matches}
use Rattle.votes.specs.Votes.{assessment_of}
use Rattle.votes.specs.declared.Assessment.{Assessment}
use Rattle.groups.specs.declared.Group.TheVariants.{Others}
use Rattle.groups.specs.Groups.{group, most_of}
use Rattle.choice.specs.declared.Refused.{Refused}
use Rattle.choice.specs.Rules.{choice_of}
use Rattle.choice.specs.Supplied.{supplied_of}
use Rattle.verdict.specs.declared.Decoding.{Decoding}
use Rattle.verdict.specs.Sectors.{entry}
use Rattle.decode.specs.Decode.{decoding_of, supplied_decoding_of, written_of}

-- a page read by its own scan: what `decode_page` and `decode_with_bv` answer, and what they leave in out
abbrev pub read_page : ℕ → List ℕ → List ℕ → Options → ℕ → Result Decoding Refused
read_page number stored anchors o m = decoding_of number stored (fits_of number stored) (bytes_of number stored) anchors o m

abbrev pub read_with : ℕ → ℕ → List ℕ → Options → ℕ → Result Decoding Refused
read_with number bv stored o m = supplied_decoding_of number bv stored (fits_of number stored) (bytes_of number stored) o m

abbrev pub left_in : List ℕ → ℕ → List ℕ → Result Decoding Refused → List ℕ
left_in out number stored r = written_of r stored (bytes_of number stored) out

-- the fit of sector bytes l at an offset: its step is the smallest of those with the largest modal count, its peak is that count, its
-- runner-up the second of the 256 counts, sorted; it is exact where the shifted bytes are all equal; tied is "the number of steps that reach the peak,
-- 1 to 256", and "above 1 exactly when runner-up equals peak" (document 02, #106)
pub record BestFit (offset : ℕ) (l : List ℕ) (f : Fit) : Type 0 where
  pub byte : f.step < 256
  pub most : (k : ℕ) → k < 256 → modal_at offset l k ≤ modal_at offset l f.step
  pub first : (k : ℕ) → k < f.step → modal_at offset l k < modal_at offset l f.step
  pub peak : f.peak ≡ modal_at offset l f.step
  pub runner : f.runner_up ≡ get_or (sorted_down (each (modal_at offset l) 256)) 1 0
  pub exact : f.exact ≡ all_same (shifted_list offset f.step l)
  pub tied : f.tied ≡ how_many (λ k. eqb (modal_at offset l k) f.peak) 256
  pub tied-range : (1 ≤ f.tied) × (f.tied ≤ 256)
  pub tied-runner : 1 < f.tied → f.runner_up ≡ f.peak
  pub runner-tied : f.runner_up ≡ f.peak → 1 < f.tied

-- a decoding d of a stored page, and what it wrote
pub record Recovered (number : ℕ) (stored : List ℕ) (d : Decoding) (written : List ℕ) : Type 0 where
  pub bytes :
      (s i : ℕ)
      → s < 8
      → i < sector_end s - s * 512
      → byte_at stored (s * 512 + i)
      ≡ (byte_at written (s * 512 + i) + offset_of number s + i * (entry d.fits s).step + d.choice.bv) % 256
  pub trailer : drop 4080 written ≡ drop 4080 stored
  pub whole : length written ≡ 4096
  pub fits : d.fits ≡ fits_of number stored
  pub best : (s : ℕ) → s < 8 → BestFit (offset_of number s) (part s stored) (entry d.fits s)

-- the last piece of evidence of a table
abbrev pub last_of : Grounds → Option Evidence
last_of g = get_or g.items (g.len - 1) None

-- the choice is the rules', for the page's own shifted bytes, so that it means what `meanings` says of it; a page whose bv comes from its row count passes
-- the row-count test as it was written; the last evidence is the number of data bytes written that are zero, with its lead over the best of the other
-- candidates
pub record Evident (number : ℕ) (stored anchors : List ℕ) (o : Options) (d : Decoding) (written : List ℕ) : Type 0 where
  pub choice : choice_of number (bytes_of number stored) anchors (row_count_of stored) o ≡ Ok d.choice
  pub byte : d.choice.bv < 256
  pub passes :
      d.choice.source ≡ source.TrailerRowCount
      → (0 < row_count_of written) × (page_matches o.search_limit written o.min_trailer_count ≡ true)
  pub mass :
      let zeros : ℕ = count 0 (take 4080 written) in
      let a : Assessment = assessment_of o.search_limit (bytes_of number stored) anchors (row_count_of stored) o.min_trailer_count in
      last_of d.choice.grounds ≡ Some (evidence.ZeroMass zeros (zeros - most_of (group (Others d.choice.bv) a)))

pub record Recovers : Type 0 where
  pub read :
      (number : ℕ) (stored anchors : List ℕ) (o : Options) (out : List ℕ)
      → AllBytes stored
      → is_unallocated stored ≡ false
      → (d : Decoding)
      → read_page number stored anchors o (length out) ≡ Ok d
      → Recovered number stored d (left_in out number stored (Ok d)) × Evident number stored anchors o d (left_in out number stored (Ok d))
  pub supplied :
      (number bv : ℕ) (stored : List ℕ) (o : Options) (out : List ℕ)
      → AllBytes stored
      → is_unallocated stored ≡ false
      → (d : Decoding)
      → read_with number bv stored o (length out) ≡ Ok d
      → Recovered number stored d (left_in out number stored (Ok d))
      × (supplied_of number bv (bytes_of number stored) (row_count_of stored) o ≡ Ok d.choice)
