-- How many bytes the parts take, whatever they hold. Assumes nothing.
use Rattle.std.proofs.Common.{◌≡◌, refl, arith, ℕ, ◌*◌, List, [], ◌∷◌, Option, Some, None, slice_get}
use Rattle.answers.specs.Answers.{Answer, Bvs}
use Rattle.answers.specs.declared.trust.Evidence.{Evidence}
use Rattle.answers.specs.declared.notices.Warning.{Warning}
use Rattle.sector.specs.declared.fits.Fit.{Fit}
use Rattle.fields.specs.Fields.{Field, little, width_of, size_of, pair_entry}
use Rattle.fields.proofs.Sizes.{table-size}
use Rattle.parts.specs.Parts.{answer_fields, answer_size, fit_fields, fit_size, no_fit, fits_fields, fits_size, ground_fields, ground_size, no_ground, grounds_fields, warning_fields, warning_size, no_warning, warnings_fields, bv_fields, no_bv, bvs_fields, bvs_size, place_fields, table_fields, slots_fields, slots_size}

pub answer-size : (x : Answer) → size_of (answer_fields x) ≡ answer_size
unfolding answer_fields size_of width_of
answer-size x = refl

-- zeros in one field
pub zeros-size : (n : ℕ) → size_of (little n 0 ∷ []) ≡ n
unfolding size_of width_of
zeros-size n = omega arith

-- a place of a table, and a table of n entries of w bytes each
pub place-size :
    {A : Type 0} (f : A → List Field) (b : List Field) (w : ℕ)
    → ((x : A) → size_of (f x) ≡ w)
    → size_of b ≡ w
    → (x : Option A)
    → size_of (place_fields f b x) ≡ w
place-size f b w h e None = e
place-size f b w h e (Some x) = h x

entries-size :
    {A : Type 0} (f : A → List Field) (b : List Field) (w : ℕ)
    → ((x : A) → size_of (f x) ≡ w)
    → size_of b ≡ w
    → (items : List A) (n : ℕ)
    → size_of (table_fields f b items n) ≡ n * w
unfolding table_fields
entries-size f b w h e items n = table-size (λ k. place_fields f b (slice_get items k)) w n (λ k. place-size f b w h e _)

places-size :
    {A : Type 0} (f : A → List Field) (b : List Field) (w : ℕ)
    → ((x : A) → size_of (f x) ≡ w)
    → size_of b ≡ w
    → (items : List (Option A)) (n : ℕ)
    → size_of (table_fields (place_fields f b) b items n) ≡ n * w
places-size f b w h e items n = entries-size (place_fields f b) b w (place-size f b w h e) e items n

fit-size : (f : Fit) → size_of (fit_fields f) ≡ fit_size
unfolding fit_fields size_of width_of
fit-size f = refl

no-fit-size : size_of no_fit ≡ fit_size
unfolding size_of width_of
no-fit-size = refl

pub fits-size : (fits : List Fit) → size_of (fits_fields fits) ≡ fits_size
unfolding fits_fields
fits-size fits = entries-size fit_fields no_fit fit_size fit-size no-fit-size fits 8

ground-size : (e : Evidence) → size_of (ground_fields e) ≡ ground_size
unfolding ground_fields size_of width_of
ground-size e = refl

no-ground-size : size_of no_ground ≡ ground_size
unfolding size_of width_of
no-ground-size = refl

pub grounds-size : (grounds : List (Option Evidence)) → size_of (grounds_fields grounds) ≡ 4 * ground_size
unfolding grounds_fields
grounds-size grounds = places-size ground_fields no_ground ground_size ground-size no-ground-size grounds 4

warning-size : (w : Warning) → size_of (warning_fields w) ≡ warning_size
unfolding warning_fields size_of width_of
warning-size w = refl

pub no-warning-size : size_of no_warning ≡ warning_size
unfolding size_of width_of
no-warning-size = refl

pub warnings-size : (items : List (Option Warning)) (n : ℕ) → size_of (warnings_fields items n) ≡ n * warning_size
unfolding warnings_fields
warnings-size items n = places-size warning_fields no_warning warning_size warning-size no-warning-size items n

bv-size : (bv : ℕ) → size_of (bv_fields bv) ≡ 1
unfolding size_of width_of
bv-size bv = refl

pub bvs-size : (t : Bvs) → size_of (bvs_fields t) ≡ bvs_size
unfolding bvs_fields size_of width_of
bvs-size t = omega (arith, places-size bv_fields no_bv 1 bv-size (bv-size 0) t.items 8)

pub slots-size : (slots : List ℕ) → size_of (slots_fields slots) ≡ slots_size
unfolding slots_fields size_of width_of
slots-size slots = table-size (pair_entry slots) 2 1024 (λ k. refl)
