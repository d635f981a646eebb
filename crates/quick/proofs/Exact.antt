-- All shifted bytes of a sector are equal under the step of its first two bytes, and under no other, exactly where none is off their line. Assumes nothing.
use Rattle.std.proofs.Common.{◌≡◌, ℕ, ◌+◌, ◌*◌, ◌%◌, ◌<◌, ◌≤◌, true, List, length, replicate, sym, ap, ◌∙◌, subst, one-mul, mul-zero, zero-mul, arith, ext_get_or}
use lib.ListN.{get_or-replicate, length-replicate}
use Rattle.lists.specs.Bytes.{less, byte_at, AllBytes}
use Rattle.lists.specs.Counts.{all_same}
use Rattle.lists.proofs.Plain.{less-byte, less-add}
use Rattle.lists.proofs.Same.{same_at, same-each}
use Rattle.sector.specs.Fit.{shifted_list}
use Rattle.sector.proofs.Shifts.{shift-length}
use Rattle.quick.specs.Line.{line_at, OnLine, first_step, break_at}
use Rattle.quick.proofs.Lines.{off-le, off-before, off-none}
use Rattle.quick.proofs.Shifted.{byte-shifted, carried, line-shifted}

less-nothing : (x o : ℕ) → less (less x o) 0 ≡ less x o
less-nothing x o = omega arith

offset-added : (x o : ℕ) → (less x o + o) % 256 ≡ x % 256
offset-added x o = omega arith

-- what is shifted to the same as the first byte is a byte of the line
redone : (b x o p : ℕ) → b < 256 → less (less b o) p ≡ less (less x o) 0 → b ≡ (x + p) % 256
redone b x o p h e =
    sym (less-add b o h)
    ∙ ap (λ (n : ℕ). (n + o) % 256) (sym (less-add (less b o) p (less-byte b o)) ∙ ap (λ (n : ℕ). (n + p) % 256) (e ∙ less-nothing x o))
    ∙ carried (less x o) x o p (offset-added x o)

same_line : (o k : ℕ) (l : List ℕ) → AllBytes l → all_same (shifted_list o k l) ≡ true → OnLine (byte_at l 0) k l (length l)
same_line o k l bytes same =
    record {
      within = omega arith;
      at = λ i h.
          redone (byte_at l i) (byte_at l 0) o (i * k) (bytes.at i h)
          (sym (byte-shifted o k l i h)
          ∙ same_at (shifted_list o k l) i same (omega (arith, shift-length o k 0 l))
          ∙ byte-shifted o k l 0 (omega arith)
          ∙ ap (less (less (byte_at l 0) o)) (zero-mul k));
    }

step-between : (a b k : ℕ) → k < 256 → b ≡ (a + k) % 256 → k ≡ less b a
step-between a b k h e = omega arith

no_step : (s : ℕ) → s < 256 → less s s ≡ 0
no_step s h = omega arith

level : (o x i : ℕ) → line_at (less x o) 0 i ≡ less x o
level o x i = omega (arith, mul-zero i)

pub break-le : (l : List ℕ) → break_at l ≤ length l
unfolding break_at
break-le l = off-le (byte_at l 0) (first_step l) l

-- a line of any step is that through its first two bytes
line_step : (k : ℕ) (l : List ℕ) → k < 256 → 2 ≤ length l → OnLine (byte_at l 0) k l (length l) → k ≡ first_step l
line_step k l hk two on =
    step-between (byte_at l 0) (byte_at l 1) k hk (on.at 1 (omega arith) ∙ ap (λ (p : ℕ). (byte_at l 0 + p) % 256) (one-mul k))

pub line-unbroken : (k : ℕ) (l : List ℕ) → k < 256 → 2 ≤ length l → OnLine (byte_at l 0) k l (length l) → break_at l ≡ length l
unfolding break_at
line-unbroken k l hk two on =
    off-none (byte_at l 0) (first_step l) l (subst (λ (j : ℕ). OnLine (byte_at l 0) j l (length l)) (line_step k l hk two on) on)

pub unbroken : (l : List ℕ) → break_at l ≡ length l → OnLine (byte_at l 0) (first_step l) l (length l)
unfolding break_at
unbroken l e = record { within = omega arith; at = λ i h. (off-before (byte_at l 0) (first_step l) l).at i (omega arith) }

module _ (o : ℕ) (l : List ℕ) where
  -- THE SHIFTED BYTES where none breaks, under the step of the first two: the first byte less the offset, each time
  unbroken-at : break_at l ≡ length l → (i : ℕ) → i < length l → byte_at (shifted_list o (first_step l) l) i ≡ less (byte_at l 0) o
  unbroken-at e i h =
      let small : first_step l < 256 = less-byte (byte_at l 1) (byte_at l 0) in
      line-shifted o (byte_at l 0) (first_step l) (first_step l) l small small (unbroken l e) i h
      ∙ ap (λ (d : ℕ). line_at (less (byte_at l 0) o) d i) (no_step (first_step l) small)
      ∙ level o (byte_at l 0) i

  pub unbroken-shifted : break_at l ≡ length l → shifted_list o (first_step l) l ≡ replicate (length l) (less (byte_at l 0) o)
  unbroken-shifted e =
      let y : ℕ = less (byte_at l 0) o in
      let size : length (shifted_list o (first_step l) l) ≡ length l = shift-length o (first_step l) 0 l in
      ext_get_or 0 (shifted_list o (first_step l) l) (replicate (length l) y) (size ∙ sym (length-replicate (length l) y))
      (λ i h. unbroken-at e i (omega arith) ∙ sym (get_or-replicate (length l) i y 0 (omega arith)))

  -- THE TEST: no byte breaks exactly where all shifted bytes are equal under the step of the first two
  pub unbroken-same : break_at l ≡ length l → all_same (shifted_list o (first_step l) l) ≡ true
  unbroken-same e =
      same-each (less (byte_at l 0) o) (shifted_list o (first_step l) l) (λ i h. unbroken-at e i (omega (arith, shift-length o (first_step l) 0 l)))

  module _ (bytes : AllBytes l) where
    pub same-unbroken : all_same (shifted_list o (first_step l) l) ≡ true → break_at l ≡ length l
    unfolding break_at
    same-unbroken same = off-none (byte_at l 0) (first_step l) l (same_line o (first_step l) l bytes same)

    -- and that is the only step under which they are
    pub one-step : (k : ℕ) → k < 256 → 2 ≤ length l → all_same (shifted_list o k l) ≡ true → k ≡ first_step l
    one-step k hk two same = line_step k l hk two (same_line o k l bytes same)
