-- Document 02, #104, in plain terms: where a sector can break, and what it has where it does not, at either length. Assumes nothing.
use Rattle.std.proofs.Common.{◌≡◌, ℕ, zero, suc, ◌+◌, ◌*◌, ◌%◌, ◌<◌, ◌≤◌, true, List, length, sym, ap, ◌∙◌, one-mul, arith}
use native.Mathlib.Decide.{dec_lt}
use Rattle.lists.specs.Bytes.{less, byte_at, AllBytes}
use Rattle.lists.specs.Counts.{all_same}
use Rattle.sector.specs.Fit.{shifted_list, fit_of, sector_of}
use Rattle.sector.proofs.Meaning.{fit-step, fit-exact}
use Rattle.quick.specs.Line.{line_at, first_step, break_at, exact_fit}
use Rattle.quick.proofs.Lines.{line-start, off-not-on}
use Rattle.quick.proofs.Exact.{break-le, same-unbroken, one-step}
use Rattle.quick.proofs.Fits.{unbroken-fit}

second-on : (a b p : ℕ) → b < 256 → p ≡ less b a → b ≡ (a + p) % 256
second-on a b p h e = omega arith

module _ (l : List ℕ) (bytes : AllBytes l) where
  -- places 0 and 1 are on the line, whatever they hold
  first_two : (i : ℕ) → i < 2 → i < length l → byte_at l i ≡ line_at (byte_at l 0) (first_step l) i
  first_two zero h q = line-start (byte_at l 0) (first_step l) (bytes.at 0 q)
  first_two (suc zero) h q = second-on (byte_at l 0) (byte_at l 1) (1 * first_step l) (bytes.at 1 q) (one-mul (first_step l))
  first_two (suc (suc i)) h q = absurd (omega arith)

  -- so a sector that breaks does so at byte 2 or later
  pub break-late : break_at l < length l → 2 ≤ break_at l
  unfolding break_at
  break-late h = go (dec_lt (break_at l) 2)
    where
      go : Dec (break_at l < 2) → 2 ≤ break_at l
      go (yes early) = absurd (off-not-on (byte_at l 0) (first_step l) l h (first_two (break_at l) early h))
      go (no late) = omega arith

  pub break-short : length l ≤ 2 → break_at l ≡ length l
  break-short h = go (dec_lt (break_at l) (length l))
    where
      go : Dec (break_at l < length l) → break_at l ≡ length l
      go (yes less) = omega (arith, break-late less)
      go (no whole) = omega (arith, break-le l)

-- THE FIT of a whole sector that does not break, of 512 data bytes and of 496
module _ (o : ℕ) (l : List ℕ) where
  pub exact-512 :
      length l ≡ 512 → break_at l ≡ 512 → fit_of o l ≡ record { step = first_step l; peak = 512; runner_up = 256; exact = true; tied = 1 }
  exact-512 n e = unbroken-fit o l (e ∙ sym n) (omega arith) ∙ ap (exact_fit (first_step l)) n

  pub exact-496 :
      length l ≡ 496 → break_at l ≡ 496 → fit_of o l ≡ record { step = first_step l; peak = 496; runner_up = 248; exact = true; tied = 1 }
  exact-496 n e = unbroken-fit o l (e ∙ sym n) (omega arith) ∙ ap (exact_fit (first_step l)) n

-- and no exact sector breaks: each is answered at once
pub exact-unbroken : (o : ℕ) (l : List ℕ) → AllBytes l → 2 ≤ length l → (fit_of o l).exact ≡ true → break_at l ≡ length l
unfolding sector_of
exact-unbroken o l bytes two e =
    let step : ℕ = (fit_of o l).step in
    let same : all_same (shifted_list o step l) ≡ true = sym (fit-exact o l) ∙ e in
    same-unbroken o l bytes (ap (λ (k : ℕ). all_same (shifted_list o k l)) (sym (one-step o l bytes step (fit-step o l) two same)) ∙ same)
