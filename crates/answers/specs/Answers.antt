-- Document 01, "Answer numbers", without 15, which no page gets (request #107), and 20 of request #109: the number and the values of each answer.
-- Assumes nothing.
use Rattle.std.specs.Prelude.{ℕ, Bool, List, [], ◌∷◌, eqb, Option, Some, None, Result}
use Rattle.std.specs.Result.{result_err}
use Rattle.answers.specs.declared.kinds.Reason.{Reason}
use Rattle.answers.specs.declared.kinds.Reason.TheVariants.{CountBelowFour, FewerThanEightLive, Unconfirmed}
use Rattle.answers.specs.declared.kinds.Refusal.{Refusal}
use Rattle.answers.specs.declared.kinds.Refusal.TheVariants.{WrongPageLength, WrongBufferLength, BadCrc, BadTrailer, AmbiguousCalibration, KeystreamUnverified, LowConfidenceKeystream, NoSlotDirectory, UnknownPrelude, SlotDirectoryTruncated, AmbiguousSlotDirectory, SlotOffsetInDirectory, BadMagic, BadReplacement, NoSuchRow, MalformedLine, LimitOutOfRange}
use Rattle.answers.specs.declared.tables.Table.{Table}

-- the reasons of answer 8: n from 1 to 3; fewer than 8 live; unconfirmed
abbrev pub reason_number : Reason → ℕ
reason_number CountBelowFour = 1
reason_number FewerThanEightLive = 2
reason_number Unconfirmed = 3

-- the column "no.", but for 0
abbrev pub refusal_number : Refusal → ℕ
refusal_number (WrongPageLength length) = 1
refusal_number (WrongBufferLength length) = 2
refusal_number (BadCrc page stored computed) = 3
refusal_number (BadTrailer page) = 4
refusal_number (AmbiguousCalibration page) = 5
refusal_number (KeystreamUnverified page bv) = 6
refusal_number (LowConfidenceKeystream page sector peak runner) = 7
refusal_number (NoSlotDirectory page reason) = 8
refusal_number (UnknownPrelude page) = 9
refusal_number (SlotDirectoryTruncated page found expected stop) = 10
refusal_number (AmbiguousSlotDirectory page) = 11
refusal_number (SlotOffsetInDirectory page offset end) = 12
refusal_number (BadMagic magic) = 13
refusal_number (BadReplacement sector) = 14
refusal_number (NoSuchRow row) = 16
refusal_number MalformedLine = 17
refusal_number (LimitOutOfRange limit) = 20

-- the column "returns". The candidates of 5 stand beside it
abbrev pub refusal_values : Refusal → List ℕ
refusal_values (WrongPageLength length) = length ∷ []
refusal_values (WrongBufferLength length) = length ∷ []
refusal_values (BadCrc page stored computed) = page ∷ stored ∷ computed ∷ []
refusal_values (BadTrailer page) = page ∷ []
refusal_values (AmbiguousCalibration page) = page ∷ []
refusal_values (KeystreamUnverified page bv) = page ∷ bv ∷ []
refusal_values (LowConfidenceKeystream page sector peak runner) = page ∷ sector ∷ peak ∷ runner ∷ []
refusal_values (NoSlotDirectory page reason) = page ∷ reason_number reason ∷ []
refusal_values (UnknownPrelude page) = page ∷ []
refusal_values (SlotDirectoryTruncated page found expected stop) = page ∷ found ∷ expected ∷ stop ∷ []
refusal_values (AmbiguousSlotDirectory page) = page ∷ []
refusal_values (SlotOffsetInDirectory page offset end) = page ∷ offset ∷ end ∷ []
refusal_values (BadMagic magic) = magic ∷ []
refusal_values (BadReplacement sector) = sector ∷ []
refusal_values (NoSuchRow row) = row ∷ []
refusal_values MalformedLine = []
refusal_values (LimitOutOfRange limit) = limit ∷ []

-- what is answered: a refusal, or 0, which returns nothing beside its number
abbrev pub Answer : Type 0
Answer = Option Refusal

abbrev pub number_of : Answer → ℕ
number_of None = 0
number_of (Some r) = refusal_number r

abbrev pub values_of : Answer → List ℕ
values_of None = []
values_of (Some r) = refusal_values r

abbrev pub is_accepted : Answer → Bool
is_accepted a = eqb (number_of a) 0

-- the answer that a result gives
abbrev pub answer_in : {A : Type 0} → Result A Refusal → Answer
answer_in r = result_err r

-- the values of bv that a calibration left
abbrev pub Bvs : Type 0
Bvs = Table ℕ 8
