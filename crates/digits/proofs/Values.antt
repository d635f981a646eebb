-- The value of a digit, and the values of a line's characters. Assumes nothing.
use Rattle.std.proofs.Common.{◌≡◌, ℕ, ◌+◌, ◌-◌, ◌*◌, ◌/◌, ◌%◌, ◌<◌, ◌≤◌, min, max, true, false, ltb, leb, List, length, ap, ◌∙◌, arith, ltb-false, ltb-true, le-leb, leb-false, leb-true}
use Rattle.lists.specs.Bytes.{byte_at}
use Rattle.lists.specs.Pieces.{over}
use Rattle.lists.specs.Cases.{pick}
use Rattle.lists.proofs.Picks.{pick-case, pick-le, pick-gt}
use Rattle.lists.proofs.Booleans.{and_yes, and-not-both}
use Rattle.lists.proofs.Greatest.{greatest-above, greatest-below}
use Rattle.digits.specs.Digits.{is_from, digit_of, value_at, worst_of, worst_in, digit_values, values_into, lower_digit}

from-yes : (a z c : ℕ) → a ≤ c → c ≤ z → is_from a z c ≡ true
from-yes a z c h k = and_yes (leb a c) (leb c z) (le-leb a c h) (le-leb c z k)

from-no : (a z c : ℕ) → (a ≤ c → c ≤ z → ⊥) → is_from a z c ≡ false
from-no a z c f = and-not-both (leb a c) (leb c z) (λ p q. f (leb-true a c p) (leb-true c z q))

up_to : {P : Type 0} (c n : ℕ) → (c ≤ n → P) → (n < c → P) → P
up_to {P} c n f g = pick-case (λ (_ : ℕ). P) (leb c n) 0 0 (λ e. f (leb-true c n e)) (λ e. g (leb-false c n e))

-- a letter's value by the distance of its small form from `a`
letter-value :
    (c l : ℕ)
    → c < 256
    → l < 256
    → (l + 97) % 256 ≡ c / 64 * 64 + 32 + c % 32
    → min l 6 + 10 ≡ pick (is_from 65 70 c) (c - 55) (pick (is_from 97 102 c) (c - 87) 16)
letter-value c l byte hl e =
    up_to c 64 (λ h. rw (from-no 65 70 c (λ a z. omega arith), from-no 97 102 c (λ a z. omega arith)) (omega arith))
    (λ a.
    up_to c 70 (λ h. rw (from-yes 65 70 c a h) (omega arith))
    (λ b.
    up_to c 96 (λ h. rw (from-no 65 70 c (λ x z. omega arith), from-no 97 102 c (λ x z. omega arith)) (omega arith))
    (λ d.
    up_to c 102 (λ h. rw (from-no 65 70 c (λ x z. omega arith), from-yes 97 102 c d h) (omega arith))
    (λ h. rw (from-no 65 70 c (λ x z. omega arith), from-no 97 102 c (λ x z. omega arith)) (omega arith)))))

-- a decimal digit's value by its distance from `:`, and at least 16 of another character
module _ (c d : ℕ) (byte : c < 256) (hd : d < 256) (e : (d + 58) % 256 ≡ c) where
  decimal-value : 48 ≤ c → c ≤ 57 → (max d 6 + 10) % 256 ≡ c - 48
  decimal-value h k = omega arith

  decimal-before : c < 48 → 16 ≤ (max d 6 + 10) % 256
  decimal-before h = omega arith

  decimal-behind : 57 < c → 16 ≤ (max d 6 + 10) % 256
  decimal-behind h = omega arith

  -- the lesser of both is the digit's value
  pub digit-lesser : (l : ℕ) → l < 256 → (l + 97) % 256 ≡ c / 64 * 64 + 32 + c % 32 → min ((max d 6 + 10) % 256) (min l 6 + 10) ≡ digit_of c
  unfolding digit_of
  digit-lesser l hl k =
      let v = letter-value c l byte hl k in
      up_to c 47 (λ h. rw (from-no 48 57 c (λ a z. omega arith)) (omega (arith, decimal-before (omega arith)) ∙ v))
      (λ a.
      up_to c 57 (λ h. rw (from-yes 48 57 c a h) (omega (arith, decimal-value a h)))
      (λ h. rw (from-no 48 57 c (λ x z. omega arith)) (omega (arith, decimal-behind h) ∙ v)))

-- a line's greatest value tells of each of its characters, and they of it
pub worst-above : (line : List ℕ) (k : ℕ) → worst_of line < 16 → k < length line → digit_of (byte_at line k) < 16
unfolding worst_of
worst-above line k h b = omega (arith, greatest-above (value_at line) (length line) k b)

pub worst-below : (line : List ℕ) → ((k : ℕ) → k < length line → digit_of (byte_at line k) < 16) → worst_of line < 16
unfolding worst_of
worst-below line f = omega (arith, greatest-below (value_at line) (length line) 15 (λ k h. let b = f k h in omega arith))

-- a digit that is written has the value that it was written for
at-decimal : (c : ℕ) → 48 ≤ c → c ≤ 57 → digit_of c ≡ c - 48
unfolding digit_of
at-decimal c h k = rw (from-yes 48 57 c h k)

at-lower : (c : ℕ) → 97 ≤ c → c ≤ 102 → digit_of c ≡ c - 87
unfolding digit_of
at-lower c h k = rw (from-no 48 57 c (λ p q. omega arith), from-no 65 70 c (λ p q. omega arith), from-yes 97 102 c h k)

pub lower-back : (v : ℕ) → v < 16 → digit_of (lower_digit v) ≡ v
lower-back v h =
    pick-case (λ (c : ℕ). digit_of c ≡ v) (ltb v 10) (48 + v) (87 + v)
    (λ e. let b = ltb-true v 10 e in at-decimal (48 + v) (omega arith) (omega arith) ∙ omega arith)
    (λ e. let b = ltb-false v 10 e in at-lower (87 + v) (omega arith) (omega arith) ∙ omega arith)

-- two values in one number, and the product that puts them side by side
apart : (a b : ℕ) → a < 256 → (a + b * 256) * 4097 / 256 ≡ b * 4097 + a * 16
apart a b h = omega arith

joint : (a b : ℕ) → (b * 4097 + a * 16) % 256 ≡ (a * 16 + b) % 256
joint a b = omega arith

pub pair_of : (a b : ℕ) → a < 256 → (a + b * 256) * 4097 / 256 % 256 ≡ (a * 16 + b) % 256
pair_of a b h = ap (λ (n : ℕ). n % 256) (apart a b h) ∙ joint a b

-- what does not fit, and what does
module _ (line values : List ℕ) where
  pub values-no : length values < length line → (16 ≡ worst_in (length values) line) × (values ≡ values_into line values)
  unfolding worst_in values_into
  values-no h = (pick-gt _ _ _ _ h, pick-gt _ _ _ _ h)

  pub values-yes : length line ≤ length values → (worst_of line ≡ worst_in (length values) line) × (over values 0 (digit_values line) ≡ values_into line values)
  unfolding worst_in values_into
  values-yes h = (pick-le _ _ _ _ h, pick-le _ _ _ _ h)
