-- Laws of the shift register. A step is linear, so a run of steps is the sum of the runs of the parts, and a number that is shifted up by n
-- comes back after n steps. Assumes nothing.
use mathlib.Core.Path.{◌≡◌, refl, sym, ap, ap₂, ◌∙◌, subst}
use Prim.Native.Nat.{ℕ, zero, suc, ◌+◌, ◌*◌, ◌/◌, ◌%◌, ◌^◌, ◌<◌}
use native.Mathlib.Nat.{mod-lt, le_of_suc-le-suc, not-suc-le-zero, suc-add, zero-add, mul-one, zero-mul, lt_of_lt_of_le, pow-suc}
use native.Mathlib.Omega.{arith}
use lib.Arith.{digits_div, digits_mod}
use lib.Bits.{bit_xor, differ, xor_zero_r, xor_lt, xor_comm, xor_shifted, shifted_half, shifted_even}
use lib.Pow.{pow_mono}
use Rattle.checksum.specs.Register.{taps, step, steps}
use Rattle.checksum.proofs.Xor.{two_pos, xor-half, xor-odd, xor_assoc, xor-swap}

-- the taps are added where the two bits differ
taps-differ : (u v : ℕ) → u < 2 → v < 2 → differ u v * taps ≡ bit_xor (u * taps) (v * taps)
taps-differ zero v hu hv = ap (λ (x : ℕ). bit_xor x (v * taps)) (sym (zero-mul taps))
taps-differ (suc zero) zero hu hv = refl
taps-differ (suc zero) (suc zero) hu hv = refl
taps-differ (suc zero) (suc (suc v)) hu hv = absurd (not-suc-le-zero (le_of_suc-le-suc (le_of_suc-le-suc hv)))
taps-differ (suc (suc u)) v hu hv = absurd (not-suc-le-zero (le_of_suc-le-suc (le_of_suc-le-suc hu)))

pub step-xor : (a b : ℕ) → step (bit_xor a b) ≡ bit_xor (step a) (step b)
unfolding step
step-xor a b =
    ap₂ (λ (x y : ℕ). bit_xor x (y * taps)) (xor-half a b) (xor-odd a b)
    ∙ ap (bit_xor (bit_xor (a / 2) (b / 2))) (taps-differ (a % 2) (b % 2) (mod-lt a two_pos) (mod-lt b two_pos))
    ∙ xor-swap (a / 2) (b / 2) (a % 2 * taps) (b % 2 * taps)

pub steps-xor : (n a b : ℕ) → steps n (bit_xor a b) ≡ bit_xor (steps n a) (steps n b)
unfolding steps
steps-xor zero a b = refl
steps-xor (suc n) a b = ap (steps n) (step-xor a b) ∙ steps-xor n (step a) (step b)

pub steps-add : (m n x : ℕ) → steps (m + n) x ≡ steps n (steps m x)
unfolding steps
steps-add zero n x = ap (λ (k : ℕ). steps k x) (zero-add n)
steps-add (suc m) n x = ap (λ (k : ℕ). steps k x) (suc-add m n) ∙ steps-add m n (step x)

-- a number and its lowest bit
pub step-digit : (n r : ℕ) → r < 2 → step (n * 2 + r) ≡ bit_xor n (r * taps)
unfolding step
step-digit n r h = ap₂ (λ (x y : ℕ). bit_xor x (y * taps)) (digits_div n h) (digits_mod n h)

pub steps-zero : (n : ℕ) → steps n 0 ≡ 0
unfolding steps step
steps-zero zero = refl
steps-zero (suc n) = steps-zero n

pub steps-shifted : (n a : ℕ) → steps n (a * 2 ^ n) ≡ a
unfolding steps step
steps-shifted zero a = mul-one a
steps-shifted (suc n) a =
    ap (steps n)
    (ap₂ (λ (x y : ℕ). bit_xor x (y * taps)) (shifted_half a n) (shifted_even a n) ∙ xor_zero_r (a * 2 ^ n))
    ∙ steps-shifted n a

-- a number shifted up by j of the steps
pub run-back : (j k x : ℕ) → steps (j + k) (x * 2 ^ j) ≡ steps k x
run-back j k x = steps-add j k (x * 2 ^ j) ∙ ap (steps k) (steps-shifted j x)

-- n low bits below a number: n steps run them out, and add what they leave to the number
pub steps-over : (n c a r : ℕ) → r < 2 ^ n → steps n (bit_xor c (a * 2 ^ n + r)) ≡ bit_xor (steps n (bit_xor c r)) a
steps-over n c a r h =
    ap (λ (x : ℕ). steps n (bit_xor c x)) (sym (xor_shifted a n r h) ∙ xor_comm (a * 2 ^ n) r)
    ∙ ap (steps n) (sym (xor_assoc c r (a * 2 ^ n)))
    ∙ steps-xor n (bit_xor c r) (a * 2 ^ n)
    ∙ ap (bit_xor (steps n (bit_xor c r))) (steps-shifted n a)

taps-lt : (r : ℕ) → r < 2 → r * taps < 2 ^ 32
taps-lt r h = omega arith

-- n steps reduce a number of n + 32 bits to one of 32
pub steps-reduce : (n x : ℕ) → x < 2 ^ (n + 32) → steps n x < 2 ^ 32
unfolding steps step
steps-reduce zero x h = h
steps-reduce (suc n) x h =
    let k : x < 2 ^ (n + 32) * 2 = subst (λ (y : ℕ). x < y) (ap (λ (j : ℕ). 2 ^ j) (suc-add n 32) ∙ pow-suc 2 (n + 32)) h in
    steps-reduce n (bit_xor (x / 2) (x % 2 * taps))
    (xor_lt (n + 32) (x / 2) (x % 2 * taps) (omega arith) (lt_of_lt_of_le (taps-lt (x % 2) (mod-lt x two_pos)) (pow_mono {i = 32} {j = n + 32} (omega arith))))
