-- The first eight bytes of an answer part. Assumes nothing.
use Prim.Native.Nat.{ℕ}
use Rattle.std.specs.Prelude.{Some, None, MatchOption}
use mathlib.Core.Path.{◌≡◌, refl}
use mathlib.Core.List.{[], ◌∷◌}
use lib.ListN.{length}
use Rattle.numbers.specs.Numbers.{little_bytes}
use Rattle.answers.specs.Answers.{Answer, number_of, values_of, refusal_number, refusal_values}
use Rattle.answers.specs.Values.{placed}
use Rattle.answers.specs.declared.values.Values.{Values}
use Rattle.answers.specs.declared.kinds.Refusal.TheVariants.{WrongPageLength, WrongBufferLength, BadCrc, BadTrailer, AmbiguousCalibration, KeystreamUnverified, LowConfidenceKeystream, NoSlotDirectory, UnknownPrelude, SlotDirectoryTruncated, AmbiguousSlotDirectory, SlotOffsetInDirectory, BadMagic, BadReplacement, NoSuchRow, MalformedLine, LimitOutOfRange}
use Rattle.parts.specs.Parts.{answer_head}

-- the number, how many values, six zeros
pub head_bytes : (x : Answer) → little_bytes 8 (answer_head x) ≡ number_of x ∷ length (values_of x) ∷ 0 ∷ 0 ∷ 0 ∷ 0 ∷ 0 ∷ 0 ∷ []
unfolding little_bytes
head_bytes None = refl
head_bytes (Some (WrongPageLength length)) = refl
head_bytes (Some (WrongBufferLength length)) = refl
head_bytes (Some (BadCrc page stored computed)) = refl
head_bytes (Some (BadTrailer page)) = refl
head_bytes (Some (AmbiguousCalibration page)) = refl
head_bytes (Some (KeystreamUnverified page bv)) = refl
head_bytes (Some (LowConfidenceKeystream page sector peak runner-up)) = refl
head_bytes (Some (NoSlotDirectory page reason)) = refl
head_bytes (Some (UnknownPrelude page)) = refl
head_bytes (Some (SlotDirectoryTruncated page found expected stop)) = refl
head_bytes (Some (AmbiguousSlotDirectory page)) = refl
head_bytes (Some (SlotOffsetInDirectory page offset end)) = refl
head_bytes (Some (BadMagic magic)) = refl
head_bytes (Some (BadReplacement sector)) = refl
head_bytes (Some (NoSuchRow row)) = refl
head_bytes (Some MalformedLine) = refl
head_bytes (Some (LimitOutOfRange limit)) = refl

-- the number and the values that stand in an answer part
pub numbered : (x : Answer) {n : ℕ} → MatchOption x (n ≡ 0) (λ r. n ≡ refusal_number r) → n ≡ number_of x
numbered None h = h
numbered (Some r) h = h

pub valued : (x : Answer) {v : Values} → MatchOption x (v ≡ placed []) (λ r. v ≡ placed (refusal_values r)) → v ≡ placed (values_of x)
valued None h = h
valued (Some r) h = h
