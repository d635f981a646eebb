-- Laws of a line, and of the first byte of a list that is off it. Assumes nothing.
use Rattle.std.proofs.Common.{◌≡◌, ℕ, ◌+◌, ◌-◌, ◌*◌, ◌%◌, ◌<◌, ◌≤◌, Bool, true, false, not, eqb, List, length, take, drop, sym, refl, ap, ◌∙◌, ⊎_elim, add-mul, eq-or-lt_of_le, zero-mul, arith, length-drop, length-take-le, get_or-drop, get_or-take, eq-eqb, ne_eqb, eqb-true}
use native.Mathlib.Decide.{dec_lt}
use Rattle.lists.specs.Bytes.{byte_at}
use Rattle.lists.specs.Counts.{least}
use Rattle.lists.proofs.Booleans.{not_back}
use Rattle.lists.proofs.Picks.{never_both}
use Rattle.lists.proofs.Least.{least-is, least-none, least-le, least-before, least-here}
use Rattle.quick.specs.Line.{line_at, off_at, OnLine}

-- ---- a line

pub line-start : (x k : ℕ) → x < 256 → x ≡ line_at x k 0
line-start x k h = omega (arith, zero-mul k)

pub line-next : (x k i r : ℕ) → r ≡ line_at x k i → (r + k) % 256 ≡ line_at x k (i + 1)
line-next x k i r e =
    let m : (i + 1) * k ≡ i * k + k = omega (arith, add-mul i 1 k) in
    omega arith

-- from place a on it is the line that begins there
pub line-from : (x k a i : ℕ) → line_at (line_at x k a) k i ≡ line_at x k (a + i)
line-from x k a i = omega (arith, add-mul a i k)

-- ---- the first byte off it

module _ (x k : ℕ) (l : List ℕ) where
  is-on : (i : ℕ) → byte_at l i ≡ line_at x k i → not (eqb (byte_at l i) (line_at x k i)) ≡ false
  is-on i e = ap not (eq-eqb (byte_at l i) (line_at x k i) e)

  is-off : (i : ℕ) → (byte_at l i ≡ line_at x k i → ⊥) → not (eqb (byte_at l i) (line_at x k i)) ≡ true
  is-off i ne = ap not (ne_eqb (byte_at l i) (line_at x k i) ne)

  pub off-le : off_at x k l ≤ length l
  unfolding off_at
  off-le = least-le (λ i. not (eqb (byte_at l i) (line_at x k i))) (length l)

  pub off-before : OnLine x k l (off_at x k l)
  unfolding off_at
  off-before =
      record {
        within = off-le;
        at = λ i h. eqb-true (byte_at l i) (line_at x k i) (not_back (least-before (λ i. not (eqb (byte_at l i) (line_at x k i))) (length l) i h));
      }

  pub off-not-on : off_at x k l < length l → byte_at l (off_at x k l) ≡ line_at x k (off_at x k l) → ⊥
  unfolding off_at
  off-not-on h e =
      let i : ℕ = least (λ i. not (eqb (byte_at l i) (line_at x k i))) (length l) in
      never_both (is-on i e) (least-here (λ i. not (eqb (byte_at l i) (line_at x k i))) (length l) h)

  -- it is the one that is off where all before it are on the line; where all are, there is none
  pub off-here : (i : ℕ) → OnLine x k l i → i < length l → (byte_at l i ≡ line_at x k i → ⊥) → off_at x k l ≡ i
  unfolding off_at
  off-here i on h ne = least-is (λ i. not (eqb (byte_at l i) (line_at x k i))) (length l) i h (is-off i ne) (λ j q. is-on j (on.at j q))

  pub off-none : OnLine x k l (length l) → off_at x k l ≡ length l
  unfolding off_at
  off-none on = least-none (λ i. not (eqb (byte_at l i) (line_at x k i))) (length l) (λ j q. is-on j (on.at j q))

  -- one byte after the other
  pub on_none : OnLine x k l 0
  on_none = record { within = omega arith; at = λ i h. absurd (omega arith) }

  pub on-more : (i : ℕ) → OnLine x k l i → i < length l → byte_at l i ≡ line_at x k i → OnLine x k l (i + 1)
  on-more i on h e = record { within = omega arith; at = λ j q. ⊎_elim (λ s. next j s) (λ s. on.at j s) (eq-or-lt_of_le (omega arith)) }
    where
      next : (j : ℕ) → j ≡ i → byte_at l j ≡ line_at x k j
      next j s = ap (byte_at l) s ∙ e ∙ ap (line_at x k) (sym s)

-- one block after the other, each from the byte of the line at its start
module _ (x k : ℕ) (l : List ℕ) (at end w : ℕ) (on : OnLine x k l at) (e : w ≡ line_at x k at) (h : at ≤ end) (q : end ≤ length l) where
  abbrev block : List ℕ
  block = take (end - at) (drop at l)

  block_at : (i : ℕ) → i < end - at → byte_at block i ≡ line_at w k i → byte_at l (at + i) ≡ line_at x k (at + i)
  block_at i g b =
      sym (get_or-take (end - at) (drop at l) i 0 g ∙ get_or-drop at l i 0) ∙ b ∙ ap (λ (y : ℕ). line_at y k i) e ∙ line-from x k at i

  pub on-block : true ≡ eqb (off_at w k block) (length block) → OnLine x k l end
  on-block t =
      let whole : off_at w k block ≡ length block = eqb-true (off_at w k block) (length block) (sym t) in
      record { within = q; at = λ j g. go whole j g (dec_lt j at) }
    where
      go : off_at w k block ≡ length block → (j : ℕ) → j < end → Dec (j < at) → byte_at l j ≡ line_at x k j
      go whole j g (yes before) = on.at j before
      go whole j g (no past) =
          let size : length block ≡ end - at = length-take-le (end - at) (drop at l) (omega (arith, length-drop at l)) in
          let place : at + (j - at) ≡ j = omega arith in
          ap (byte_at l) (sym place)
          ∙ block_at (j - at) (omega arith) ((off-before w k block).at (j - at) (omega arith))
          ∙ ap (line_at x k) place

-- the same with a test that looks at every byte: `on` says whether the first i are on the line
pub record Seen (x k : ℕ) (l : List ℕ) (i : ℕ) (on : Bool) : Type 0 where
  pub yes : on ≡ true → OnLine x k l i
  pub no : on ≡ false → off_at x k l ≡ length l → ⊥

module _ (x k : ℕ) (l : List ℕ) where
  pub seen_none : Seen x k l 0 true
  seen_none = record { yes = λ e. on_none x k l; no = λ e. absurd (never_both e refl) }

  module _ (i : ℕ) (on : Bool) (s : Seen x k l i on) where
    pub seen-off : i < length l → (byte_at l i ≡ line_at x k i → ⊥) → Seen x k l (i + 1) false
    seen-off h ne = record { yes = λ e. absurd (never_both refl e); no = λ e q. ne ((off-before x k l).at i (omega arith)) }

    pub seen-on : i < length l → byte_at l i ≡ line_at x k i → Seen x k l (i + 1) on
    seen-on h e = record { yes = λ t. on-more x k l i (s.yes t) h e; no = s.no }

  pub seen_all : (on : Bool) → Seen x k l (length l) on → on ≡ eqb (off_at x k l) (length l)
  seen_all true s = sym (eq-eqb (off_at x k l) (length l) (off-none x k l (s.yes refl)))
  seen_all false s = sym (ne_eqb (off_at x k l) (length l) (s.no refl))
