-- The parts, each a list of fields, and how many bytes each takes. Assumes nothing.
use Rattle.std.specs.Prelude.{ℕ, ◌+◌, ◌*◌, List, [], ◌∷◌, Option, Some, None, slice_get}
use Rattle.lists.specs.Cases.{flag}
use Rattle.lists.specs.Pieces.{joined}
use Rattle.answers.specs.Values.{placed}
use Rattle.answers.specs.Answers.{Answer, number_of, values_of, Bvs}
use Rattle.answers.specs.Trust.{evidence_number, evidence_values}
use Rattle.answers.specs.Warns.{warning_number, warning_values}
use Rattle.answers.specs.declared.trust.Evidence.{Evidence}
use Rattle.answers.specs.declared.notices.Warning.{Warning}
use Rattle.answers.specs.declared.tables.Table.{Table}
use Rattle.sector.specs.declared.fits.Fit.{Fit}
use Rattle.fields.specs.Fields.{Field, little, pair_entry}

-- the answer part: number, how many values, six zeros, four values. The first three are one number of eight bytes: `Heads.head_bytes`
abbrev pub answer_size : ℕ
answer_size = 40

abbrev pub answer_head : Answer → ℕ
answer_head x = number_of x + 256 * (placed (values_of x)).count

unfoldable pub answer_fields : Answer → List Field
answer_fields x =
    little 8 (answer_head x)
    ∷ little 8 (placed (values_of x)).first
    ∷ little 8 (placed (values_of x)).second
    ∷ little 8 (placed (values_of x)).third
    ∷ little 8 (placed (values_of x)).fourth
    ∷ []

-- a fit: step, peak, runner-up, exact, tied
abbrev pub fit_size : ℕ
fit_size = 8

unfoldable pub fit_fields : Fit → List Field
fit_fields f =
    little 1 f.step
    ∷ little 2 f.peak
    ∷ little 2 f.runner_up
    ∷ little 1 (flag f.exact)
    ∷ little 2 f.tied
    ∷ []

-- and where a place has none
abbrev pub no_fit : List Field
no_fit = little 1 0 ∷ little 2 0 ∷ little 2 0 ∷ little 1 0 ∷ little 2 0 ∷ []

-- a place of a table, and what stands in one that is not used
abbrev pub place_fields : {A : Type 0} → (A → List Field) → List Field → Option A → List Field
place_fields fields blank None = blank
place_fields fields blank (Some x) = fields x

-- the first n entries of a table; past its end, places that are not used
unfoldable pub table_fields : {A : Type 0} → (A → List Field) → List Field → List A → ℕ → List Field
table_fields fields blank items n = joined (λ k. place_fields fields blank (slice_get items k)) n

-- a list in a table of places: how many, and the places
abbrev pub listed_fields : {A : Type 0} {n : ℕ} → (A → List Field) → List Field → Table A n → List Field
listed_fields {n = n} fields blank t = little 1 t.len ∷ table_fields (place_fields fields blank) blank t.items n

-- the eight fits
abbrev pub fits_size : ℕ
fits_size = 8 * fit_size

unfoldable pub fits_fields : List Fit → List Field
fits_fields fits = table_fields fit_fields no_fit fits 8

-- a piece of evidence: number, two values
abbrev pub ground_size : ℕ
ground_size = 5

unfoldable pub ground_fields : Evidence → List Field
ground_fields e =
    little 1 (evidence_number e)
    ∷ little 2 (placed (evidence_values e)).first
    ∷ little 2 (placed (evidence_values e)).second
    ∷ []

-- and where a place has none
abbrev pub no_ground : List Field
no_ground = little 1 0 ∷ little 2 0 ∷ little 2 0 ∷ []

unfoldable pub grounds_fields : List (Option Evidence) → List Field
grounds_fields grounds = table_fields (place_fields ground_fields no_ground) no_ground grounds 4

-- a warning: number, page, three values
abbrev pub warning_size : ℕ
warning_size = 33

unfoldable pub warning_fields : Warning → List Field
warning_fields w =
    little 1 (warning_number w.kind)
    ∷ little 8 w.page
    ∷ little 8 (placed (warning_values w.kind)).first
    ∷ little 8 (placed (warning_values w.kind)).second
    ∷ little 8 (placed (warning_values w.kind)).third
    ∷ []

-- and where a place has none
abbrev pub no_warning : List Field
no_warning = little 1 0 ∷ little 8 0 ∷ little 8 0 ∷ little 8 0 ∷ little 8 0 ∷ []

-- the first n places of a table of warnings
unfoldable pub warnings_fields : List (Option Warning) → ℕ → List Field
warnings_fields items n = table_fields (place_fields warning_fields no_warning) no_warning items n

-- values of bv: how many, eight places
abbrev pub bvs_size : ℕ
bvs_size = 9

abbrev pub bv_fields : ℕ → List Field
bv_fields bv = little 1 bv ∷ []

-- and where a place has none
abbrev pub no_bv : List Field
no_bv = bv_fields 0

unfoldable pub bvs_fields : Bvs → List Field
bvs_fields t = listed_fields bv_fields no_bv t

-- a table of slots, or of where rows start
abbrev pub slots_size : ℕ
slots_size = 1024 * 2

unfoldable pub slots_fields : List ℕ → List Field
slots_fields slots = joined (pair_entry slots) 1024
