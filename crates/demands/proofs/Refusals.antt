-- A result is accepted or refused by its answer. Assumes nothing.
use Prim.Native.Nat.{◌≤◌}
use mathlib.Core.Path.{◌≡◌, refl}
use mathlib.Core.Bool.{true, false}
use native.Mathlib.Omega.{arith}
use borrow.Author.Tests.{eqb-true}
use Rattle.std.specs.Prelude.{Some, None, Result, Ok, Err, IsErr, IsOkAnd}
use Rattle.lists.proofs.Picks.{never_both}
use Rattle.answers.specs.Answers.{Answer, refusal_number, is_accepted, answer_in}
use Rattle.answers.specs.declared.kinds.Refusal.{Refusal}
use Rattle.answers.specs.declared.kinds.Refusal.TheVariants.{WrongPageLength, WrongBufferLength, BadCrc, BadTrailer, AmbiguousCalibration, KeystreamUnverified, LowConfidenceKeystream, NoSlotDirectory, UnknownPrelude, SlotDirectoryTruncated, AmbiguousSlotDirectory, SlotOffsetInDirectory, BadMagic, BadReplacement, NoSuchRow, MalformedLine, LimitOutOfRange}
use Rattle.summary.specs.Page.{if_accepted, ok_if}

module _ {A E : Type 0} where
  pub ok-here : {P : A → Type 0} (r : Result A E) → IsOkAnd r P → (x : A) × (r ≡ Ok x) × P x
  ok-here (Ok x) p = (x, refl, p)
  ok-here (Err e) p = absurd p

  pub ok-same : {x y : A} → ◌≡◌ {A = Result A E} (Ok x) (Ok y) → x ≡ y
  ok-same h = cc

-- a refusal's number is that of no accepted page, and a byte
pub number-range : (r : Refusal) → (1 ≤ refusal_number r) × (refusal_number r ≤ 20)
number-range (WrongPageLength length) = (omega arith, omega arith)
number-range (WrongBufferLength length) = (omega arith, omega arith)
number-range (BadCrc page stored computed) = (omega arith, omega arith)
number-range (BadTrailer page) = (omega arith, omega arith)
number-range (AmbiguousCalibration page) = (omega arith, omega arith)
number-range (KeystreamUnverified page bv) = (omega arith, omega arith)
number-range (LowConfidenceKeystream page sector peak runner) = (omega arith, omega arith)
number-range (NoSlotDirectory page reason) = (omega arith, omega arith)
number-range (UnknownPrelude page) = (omega arith, omega arith)
number-range (SlotDirectoryTruncated page found expected stop) = (omega arith, omega arith)
number-range (AmbiguousSlotDirectory page) = (omega arith, omega arith)
number-range (SlotOffsetInDirectory page offset end) = (omega arith, omega arith)
number-range (BadMagic magic) = (omega arith, omega arith)
number-range (BadReplacement sector) = (omega arith, omega arith)
number-range (NoSuchRow row) = (omega arith, omega arith)
number-range MalformedLine = (omega arith, omega arith)
number-range (LimitOutOfRange limit) = (omega arith, omega arith)

pub accepted-none : (x : Answer) → is_accepted x ≡ true → x ≡ None
accepted-none None e = refl
accepted-none (Some r) e = absurd (omega (arith, eqb-true (refusal_number r) 0 e, (number-range r).0))

-- nothing stands beside a refusal
pub refused-alone : {A : Type 0} (r : Result A Refusal) → is_accepted (answer_in r) ≡ false → IsErr r
refused-alone (Ok x) e = absurd (never_both e refl)
refused-alone (Err x) e = refl

-- by an answer
module _ {A : Type 0} (x : A) where
  pub ok-answer : (a : Answer) → answer_in (ok_if a x) ≡ a
  ok-answer None = refl
  ok-answer (Some r) = refl

  pub left-alone : {B : Type 0} (y z : B) (a : Answer) → is_accepted (answer_in (ok_if a x)) ≡ false → if_accepted a y z ≡ z
  left-alone y z None e = absurd (never_both e refl)
  left-alone y z (Some r) e = refl
