-- Shifted bytes of a line: they are a line again, and its step is the difference of the two. Assumes nothing.
use Rattle.std.proofs.Common.{◌≡◌, ℕ, ◌+◌, ◌*◌, ◌%◌, ◌<◌, List, length, sym, ap, ◌∙◌, add_comm, mul-add, arith}
use native.Mathlib.Decide.{dec_lt}
use Rattle.lists.specs.Bytes.{less, byte_at}
use Rattle.sector.specs.Byte.{shifted_of}
use Rattle.sector.specs.Fit.{shifted_list}
use Rattle.sector.proofs.Bytes.{less-of}
use Rattle.sector.proofs.Shifts.{shifted_at}
use Rattle.quick.specs.Line.{line_at, OnLine}

pub byte-shifted : (o k : ℕ) (l : List ℕ) (i : ℕ) → i < length l → byte_at (shifted_list o k l) i ≡ less (less (byte_at l i) o) (i * k)
unfolding shifted_of
byte-shifted o k l i h = shifted_at o k l i h

-- a place times the difference of two steps, and times the one
apart-steps : (i s k : ℕ) → s < 256 → k < 256 → (i * less s k + i * k) % 256 ≡ (i * s) % 256
apart-steps i s k hs hk = go (dec_lt s k)
  where
    go : Dec (s < k) → (i * less s k + i * k) % 256 ≡ (i * s) % 256
    go (yes h) =
        let e : less s k + k ≡ s + 256 = omega arith in
        omega (arith, mul-add i (less s k) k, ap (λ (d : ℕ). i * d) e, mul-add i s 256)
    go (no h) =
        let e : less s k + k ≡ s = omega arith in
        omega (arith, mul-add i (less s k) k, ap (λ (d : ℕ). i * d) e)

without-offset : (x o p : ℕ) → less ((x + p) % 256) o ≡ (less x o + p) % 256
without-offset x o p = omega arith

pub carried : (y x o p : ℕ) → (y + o) % 256 ≡ x % 256 → ((y + p) % 256 + o) % 256 ≡ (x + p) % 256
carried y x o p e = omega arith

without-step : (y p q r : ℕ) → (r + q) % 256 ≡ p % 256 → less ((y + p) % 256) q ≡ (y + r) % 256
without-step y p q r e =
    sym
    (less-of ((y + p) % 256) q ((y + r) % 256) (omega arith)
    (ap (λ (n : ℕ). (n % 256 + q) % 256) (add_comm y r) ∙ carried r p q y e ∙ ap (λ (n : ℕ). n % 256) (add_comm p y)))

pub line-shifted :
    (o x s k : ℕ) (l : List ℕ)
    → s < 256
    → k < 256
    → OnLine x s l (length l)
    → (i : ℕ)
    → i < length l
    → byte_at (shifted_list o k l) i ≡ line_at (less x o) (less s k) i
line-shifted o x s k l hs hk on i h =
    byte-shifted o k l i h
    ∙ ap (λ (b : ℕ). less (less b o) (i * k)) (on.at i h)
    ∙ ap (λ (c : ℕ). less c (i * k)) (without-offset x o (i * s))
    ∙ without-step (less x o) (i * s) (i * k) (i * less s k) (apart-steps i s k hs hk)
