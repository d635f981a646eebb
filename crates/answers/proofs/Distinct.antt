-- No two answers share a number and values, and no two reasons a number: a number and values name one answer. No answer has number 15.
-- Assumes nothing.
use Prim.Native.Nat.{ℕ}
use mathlib.Core.Path.{◌≡◌, refl, sym, ap, ap₂, ◌∙◌}
use mathlib.Core.List.{List, [], ◌∷◌}
use native.Mathlib.Omega.{arith}
use lib.ListN.{get_or}
use Rattle.std.specs.Prelude.{Some, None}
use Rattle.answers.specs.declared.kinds.Reason.{Reason}
use Rattle.answers.specs.declared.kinds.Reason.TheVariants.{CountBelowFour, FewerThanEightLive, Unconfirmed}
use Rattle.answers.specs.declared.kinds.Refusal.TheVariants.{WrongPageLength, WrongBufferLength, BadCrc, BadTrailer, AmbiguousCalibration, KeystreamUnverified, LowConfidenceKeystream, NoSlotDirectory, UnknownPrelude, SlotDirectoryTruncated, AmbiguousSlotDirectory, SlotOffsetInDirectory, BadMagic, BadReplacement, NoSuchRow, MalformedLine, LimitOutOfRange}
use Rattle.answers.specs.Answers.{Answer, reason_number, number_of, values_of}

-- the way back: the reason of a number, and the answer of a number and values
reason_from : ℕ → Reason
reason_from n = get_or (Unconfirmed ∷ CountBelowFour ∷ FewerThanEightLive ∷ []) n Unconfirmed

abbrev v : List ℕ → ℕ → ℕ
v l i = get_or l i 0

answer_from : ℕ → List ℕ → Answer
answer_from n l =
    get_or
    (None
    ∷ Some (WrongPageLength (v l 0))
    ∷ Some (WrongBufferLength (v l 0))
    ∷ Some (BadCrc (v l 0) (v l 1) (v l 2))
    ∷ Some (BadTrailer (v l 0))
    ∷ Some (AmbiguousCalibration (v l 0))
    ∷ Some (KeystreamUnverified (v l 0) (v l 1))
    ∷ Some (LowConfidenceKeystream (v l 0) (v l 1) (v l 2) (v l 3))
    ∷ Some (NoSlotDirectory (v l 0) (reason_from (v l 1)))
    ∷ Some (UnknownPrelude (v l 0))
    ∷ Some (SlotDirectoryTruncated (v l 0) (v l 1) (v l 2) (v l 3))
    ∷ Some (AmbiguousSlotDirectory (v l 0))
    ∷ Some (SlotOffsetInDirectory (v l 0) (v l 1) (v l 2))
    ∷ Some (BadMagic (v l 0))
    ∷ Some (BadReplacement (v l 0))
    ∷ Some MalformedLine
    ∷ Some (NoSuchRow (v l 0))
    ∷ Some MalformedLine
    ∷ Some MalformedLine
    ∷ Some MalformedLine
    ∷ [])
    n
    (Some (LimitOutOfRange (v l 0)))

reason-back : (r : Reason) → reason_from (reason_number r) ≡ r
unfolding reason_from
reason-back CountBelowFour = refl
reason-back FewerThanEightLive = refl
reason-back Unconfirmed = refl

answer_back : (a : Answer) → answer_from (number_of a) (values_of a) ≡ a
unfolding answer_from
answer_back None = refl
answer_back (Some (WrongPageLength length)) = refl
answer_back (Some (WrongBufferLength length)) = refl
answer_back (Some (BadCrc page stored computed)) = refl
answer_back (Some (BadTrailer page)) = refl
answer_back (Some (AmbiguousCalibration page)) = refl
answer_back (Some (KeystreamUnverified page bv)) = refl
answer_back (Some (LowConfidenceKeystream page sector peak runner)) = refl
answer_back (Some (NoSlotDirectory page reason)) = ap (λ r. Some (NoSlotDirectory page r)) (reason-back reason)
answer_back (Some (UnknownPrelude page)) = refl
answer_back (Some (SlotDirectoryTruncated page found expected stop)) = refl
answer_back (Some (AmbiguousSlotDirectory page)) = refl
answer_back (Some (SlotOffsetInDirectory page offset end)) = refl
answer_back (Some (BadMagic magic)) = refl
answer_back (Some (BadReplacement sector)) = refl
answer_back (Some (NoSuchRow row)) = refl
answer_back (Some MalformedLine) = refl
answer_back (Some (LimitOutOfRange limit)) = refl

-- answers of equal number and values are equal
pub same_answer : (a b : Answer) → number_of a ≡ number_of b → values_of a ≡ values_of b → a ≡ b
same_answer a b n l = sym (answer_back a) ∙ ap₂ answer_from n l ∙ answer_back b

pub same-reason : (r s : Reason) → reason_number r ≡ reason_number s → r ≡ s
same-reason r s n = sym (reason-back r) ∙ ap reason_from n ∙ reason-back s

-- number 15 stays unused: in the way back it names an answer that has another number
pub fifteen-unused : (a : Answer) → number_of a ≡ 15 → ⊥
unfolding answer_from
fifteen-unused a e =
    let other : number_of a ≡ 17 = ap number_of (sym (answer_back a) ∙ ap (λ (n : ℕ). answer_from n (values_of a)) e) in
    omega arith
