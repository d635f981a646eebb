-- How many bytes the layouts take, whatever they hold. Assumes nothing.
use mathlib.Core.Path.{◌≡◌, refl}
use mathlib.Core.List.{List, [], ◌∷◌}
use native.Mathlib.Omega.{arith}
use Prim.Native.Nat.{ℕ, ◌+◌, ◌≤◌}
use Rattle.std.specs.Prelude.{Some, None, Result, Ok, Err}
use Rattle.std.specs.Result.{result_ok, result_unwrap_or}
use Rattle.answers.specs.Answers.{answer_in}
use Rattle.answers.specs.declared.kinds.Refusal.{Refusal}
use Rattle.page.specs.declared.trailers.PageTrailer.{PageTrailer}
use Rattle.page.specs.declared.superblocks.Superblock.{Superblock}
use Rattle.sector.specs.declared.fits.Fit.{Fit}
use Rattle.choice.specs.declared.Choice.{Choice}
use Rattle.choice.specs.declared.Refused.{Refused}
use Rattle.verdict.specs.declared.Decoding.{Decoding}
use Rattle.fields.specs.Fields.{Field, little, width_of, size_of}
use Rattle.fields.proofs.Sizes.{size-append}
use Rattle.parts.proofs.Sizes.{answer-size, zeros-size, place-size, fits-size, grounds-size, warnings-size, bvs-size}
use Rattle.parts.specs.Parts.{answer_size, fits_size}
use Rattle.layout.specs.Layouts.{told_fields, record_fields, record_size, header_fields, header_size, replacement_fields, scan_size, choice_fields, choice_size, decoded_fields, decoded_size, refused_fields, decoding_fields, decoding_size}

pub told-size :
    {A : Type 0} (f : A → List Field) (n : ℕ)
    → ((x : A) → size_of (f x) ≡ n)
    → (r : Result A Refusal)
    → size_of (told_fields f n r) ≡ answer_size + n
told-size f n h r = simp size-append (omega (arith, answer-size (answer_in r), place-size f (little n 0 ∷ []) n h (zeros-size n) (result_ok r)))

pub record-size : (t : PageTrailer) → size_of (record_fields t) ≡ record_size
unfolding record_fields size_of width_of
record-size t = refl

pub record-small : record_size ≤ 4096
record-small = omega arith

pub header-size : (s : Superblock) → size_of (header_fields s) ≡ header_size
unfolding header_fields size_of width_of
header-size s = refl

pub header-small : header_size ≤ 4096
header-small = omega arith

pub fits-small : fits_size ≤ 4096
fits-small = omega arith

pub replacement-size : (lent : List Fit) (made : Result (List Fit) Refusal) → size_of (replacement_fields lent made) ≡ scan_size
unfolding replacement_fields
replacement-size lent made =
    simp size-append (omega (arith, answer-size (answer_in made), fits-size (result_unwrap_or made lent)))

choice-size : (c : Choice) → size_of (choice_fields c) ≡ choice_size
unfolding choice_fields size_of width_of
choice-size c = simp size-append (omega (arith, bvs-size c.others, grounds-size c.grounds.items))

decoded-size : (d : Decoding) → size_of (decoded_fields d) ≡ decoded_size
unfolding decoded_fields size_of width_of
decoded-size d =
    simp size-append (omega (arith, choice-size d.choice, fits-size d.fits, warnings-size d.warnings.items 10))

refused-size : (e : Refused) → size_of (refused_fields e) ≡ decoded_size
unfolding refused_fields size_of width_of
refused-size e = simp size-append (omega (arith, bvs-size e.candidates))

pub decoding-size : (r : Result Decoding Refused) → size_of (decoding_fields r) ≡ decoding_size
decoding-size (Ok d) = simp size-append (omega (arith, answer-size None, decoded-size d))
decoding-size (Err e) = simp size-append (omega (arith, answer-size (Some e.refusal), refused-size e))
