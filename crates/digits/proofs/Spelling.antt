-- The bytes that digits spell, the digits of bytes, and the way there and back. Assumes nothing.
use Rattle.std.proofs.Common.{◌≡◌, ℕ, zero, suc, ◌+◌, ◌*◌, ◌/◌, ◌%◌, ◌<◌, ◌≤◌, eqb, List, [], ◌∷◌, length, get_or, take, set, sym, refl, ap, ◌∙◌, ap₂, le_of_suc-le-suc, not-suc-le-zero, arith, ext_get_or, eqb-true, le-leb}
use borrow.Author.Tests.{lt-leb, eqb-false}
use Rattle.lists.specs.Bytes.{byte_at}
use Rattle.lists.specs.Pieces.{each, over}
use Rattle.lists.proofs.Picks.{pick-case, pick-le, pick-gt}
use Rattle.lists.proofs.Each.{each-length, each_at, each-ext}
use Rattle.lists.proofs.Filled.{front-more}
use Rattle.digits.specs.Digits.{digit_of, value_at, digit_values, worst_of, spelled_at, spelled, lower_digit, hexed, hexed_number, hexed_into, value_pair, paired_into}
use Rattle.digits.proofs.Values.{worst-above, worst-below, lower-back}

module _ (line : List ℕ) where
  pub spelled-length : length (spelled line) ≡ length line / 2
  unfolding spelled
  spelled-length = each-length (spelled_at line) (length line / 2)

  pub spelled_at_lem : (k : ℕ) → k < length line / 2 → byte_at (spelled line) k ≡ spelled_at line k
  unfolding spelled
  spelled_at_lem k h = each_at (spelled_at line) (length line / 2) k 0 h

  pub values_length : length (digit_values line) ≡ length line
  unfolding digit_values
  values_length = each-length (value_at line) (length line)

  pub values-at : (k : ℕ) → k < length line → byte_at (digit_values line) k ≡ value_at line k
  unfolding digit_values
  values-at k h = each_at (value_at line) (length line) k 0 h

  -- the values of digits make the bytes that the digits spell
  pub pair-spells : worst_of line < 16 → (k : ℕ) → k < length line / 2 → value_pair (digit_values line) k ≡ spelled_at line k
  pair-spells w k h =
      let a : value_at line (k + k) < 16 = worst-above line (k + k) w (omega arith) in
      let b : value_at line (k + k + 1) < 16 = worst-above line (k + k + 1) w (omega arith) in
      ap₂ (λ (x y : ℕ). (x * 16 + y) % 256) (values-at (k + k) (omega arith)) (values-at (k + k + 1) (omega arith)) ∙ omega arith

  pub pairs-spell : worst_of line < 16 → (bytes : List ℕ) → length line / 2 ≤ length bytes → paired_into (digit_values line) bytes ≡ over bytes 0 (spelled line)
  unfolding spelled paired_into
  pairs-spell w bytes h =
      rw (values_length)
      (sym (pick-le (over bytes 0 (each (value_pair (digit_values line)) (length line / 2))) bytes (length line / 2) (length bytes) h)
      ∙ ap (over bytes 0) (each-ext (value_pair (digit_values line)) (spelled_at line) (length line / 2) (pair-spells w)))

pub pairs-no : (values bytes : List ℕ) → length bytes < length values / 2 → bytes ≡ paired_into values bytes
unfolding paired_into
pairs-no values bytes h = pick-gt _ _ _ _ h

pub pairs-yes : (values bytes : List ℕ) → length values / 2 ≤ length bytes → over bytes 0 (each (value_pair values) (length values / 2)) ≡ paired_into values bytes
unfolding paired_into
pairs-yes values bytes h = pick-le _ _ _ _ h

pub hexed-length : (l : List ℕ) → length (hexed l) ≡ length l + length l
unfolding hexed
hexed-length [] = refl
hexed-length (b ∷ l) = omega (arith, hexed-length l)

-- the two digits of byte i
pub hexed-high : (l : List ℕ) (i : ℕ) → i < length l → get_or (hexed l) (i + i) 0 ≡ lower_digit (get_or l i 0 / 16)
unfolding hexed
hexed-high [] i h = absurd (not-suc-le-zero h)
hexed-high (b ∷ l) zero h = refl
hexed-high (b ∷ l) (suc i) h =
    let e : suc i + suc i ≡ suc (suc (i + i)) = omega arith in
    ap (λ (n : ℕ). get_or (hexed (b ∷ l)) n 0) e ∙ hexed-high l i (le_of_suc-le-suc h)

pub hexed-low : (l : List ℕ) (i : ℕ) → i < length l → get_or (hexed l) (i + i + 1) 0 ≡ lower_digit (get_or l i 0 % 16)
unfolding hexed
hexed-low [] i h = absurd (not-suc-le-zero h)
hexed-low (b ∷ l) zero h = refl
hexed-low (b ∷ l) (suc i) h =
    let e : suc i + suc i + 1 ≡ suc (suc (i + i + 1)) = omega arith in
    ap (λ (n : ℕ). get_or (hexed (b ∷ l)) n 0) e ∙ hexed-low l i (le_of_suc-le-suc h)

-- two digits more at the front of a buffer
pub hexed-more : (out l : List ℕ) (i d e : ℕ) → i < length l → length l + length l ≤ length out → d ≡ lower_digit (get_or l i 0 / 16) → e ≡ lower_digit (get_or l i 0 % 16)
    → set (set (over out 0 (take (i + i) (hexed l))) (i + i) d) (i + i + 1) e ≡ over out 0 (take (i + 1 + (i + 1)) (hexed l))
hexed-more out l i d e h k p q =
    let n : length (hexed l) ≡ length l + length l = hexed-length l in
    let next : i + i + 1 + 1 ≡ i + 1 + (i + 1) = omega arith in
    rw (p, q, ← hexed-high l i h, ← hexed-low l i h)
    (rw (front-more out (hexed l) 0 (i + i) (omega arith) (omega arith))
    (front-more out (hexed l) 0 (i + i + 1) (omega arith) (omega arith) ∙ ap (λ (m : ℕ). over out 0 (take m (hexed l))) next))

-- digits that do not fit, and digits that do
pub hex-no : (l out : List ℕ) → length out / 2 < length l → (0 ≡ hexed_number l out) × (out ≡ hexed_into l out)
unfolding hexed_number hexed_into
hex-no l out h = (rw (lt-leb (length l) (length out / 2) h), rw (lt-leb (length l) (length out / 2) h))

pub hex-yes : (l out : List ℕ) → length l ≤ length out / 2 → (length l + length l ≡ hexed_number l out) × (over out 0 (hexed l) ≡ hexed_into l out)
unfolding hexed_number hexed_into
hex-yes l out h = (rw (le-leb (length l) (length out / 2) h), rw (le-leb (length l) (length out / 2) h))

-- bytes written as hexadecimal are digits alone, and spell the bytes
module _ (l : List ℕ) (bytes : (k : ℕ) → k < length l → get_or l k 0 < 256) where
  high-back : (k : ℕ) → k < length l → digit_of (byte_at (hexed l) (k + k)) ≡ get_or l k 0 / 16
  high-back k h = ap digit_of (hexed-high l k h) ∙ lower-back (get_or l k 0 / 16) (omega (arith, bytes k h))

  low-back : (k : ℕ) → k < length l → digit_of (byte_at (hexed l) (k + k + 1)) ≡ get_or l k 0 % 16
  low-back k h = ap digit_of (hexed-low l k h) ∙ lower-back (get_or l k 0 % 16) (omega arith)

  pub spelled-hexed : spelled (hexed l) ≡ l
  spelled-hexed =
      let n : length (spelled (hexed l)) ≡ length l = spelled-length (hexed l) ∙ omega (arith, hexed-length l) in
      ext_get_or 0 (spelled (hexed l)) l n
      (λ k h.
      spelled_at_lem (hexed l) k (omega (arith, hexed-length l))
      ∙ ap₂ (λ (a b : ℕ). a * 16 + b) (high-back k (omega arith)) (low-back k (omega arith))
      ∙ omega arith)

  pub hexed-digits : worst_of (hexed l) < 16
  hexed-digits =
      let n : length (hexed l) ≡ length l + length l = hexed-length l in
      worst-below (hexed l)
      (λ k h.
      pick-case (λ (x : ℕ). digit_of (byte_at (hexed l) k) < 16) (eqb (k % 2) 0) 0 0
      (λ e.
      let even : k % 2 ≡ 0 = eqb-true _ _ e in
      let z : k / 2 + k / 2 ≡ k = omega arith in
      omega (arith, ap (λ (j : ℕ). digit_of (byte_at (hexed l) j)) z, high-back (k / 2) (omega arith), bytes (k / 2) (omega arith)))
      (λ e.
      let odd : k % 2 ≡ 0 → ⊥ = eqb-false _ _ e in
      let z : k / 2 + k / 2 + 1 ≡ k = omega arith in
      omega (arith, ap (λ (j : ℕ). digit_of (byte_at (hexed l) j)) z, low-back (k / 2) (omega arith))))
