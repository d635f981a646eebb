-- Laws of shifted bytes. Assumes nothing.
use Rattle.std.proofs.Common.{◌≡◌, ℕ, ◌+◌, ◌*◌, ◌/◌, ◌%◌, ◌<◌, ◌≤◌, sym, refl, ap, ◌∙◌, mul_assoc, add-mul, mul-le-mul, arith}
use native.Mathlib.Nat.{mul-add-mod_self_left, div-add-mod, mod-mod}
use Rattle.lists.specs.Bytes.{less}
use Rattle.lists.proofs.Plain.{less-byte}
use Rattle.sector.specs.Byte.{shifted_of}

-- the product of two bytes fits 16 bits
pub product-fits : {a b : ℕ} → a < 256 → b < 256 → a * b < 65536
product-fits {a} {b} ha hb =
    let h : a * b ≤ 255 * 255 = mul-le-mul {n₂ = 255} {m₂ = 255} (omega arith) (omega arith) in
    omega arith

-- a factor may be reduced first
pub mul-mod : (i s : ℕ) → (i % 256 * s) % 256 ≡ (i * s) % 256
mul-mod i s =
    sym
    (ap (λ (x : ℕ). x * s % 256) (sym (div-add-mod i 256))
    ∙ ap (λ (x : ℕ). x % 256) (add-mul (256 * (i / 256)) (i % 256) s ∙ ap (λ (x : ℕ). x + i % 256 * s) (mul_assoc 256 (i / 256) s))
    ∙ mul-add-mod_self_left 256 (i / 256 * s) (i % 256 * s))

-- what a wrapping difference ensures is the difference modulo 256
pub less-of : (a b r : ℕ) → r < 256 → (r + b) % 256 ≡ a → r ≡ less a b
less-of a b r hr e = omega arith

-- only remainders count
pub less-mod : (a b a' b' : ℕ) → a % 256 ≡ a' % 256 → b % 256 ≡ b' % 256 → less a b ≡ less a' b'
less-mod a b a' b' p q = omega arith

-- what is taken off at once is what is taken off one after the other
pub less-once : (b o p a : ℕ) → a ≡ (o + p) % 256 → less b a ≡ less (less b o) p
less-once b o p a e = less-of (less b o) p (less b a) (less-byte b a) (once (less b a) (omega arith))
  where
    once : (x : ℕ) → (x + a) % 256 ≡ b % 256 → (x + p) % 256 ≡ less b o
    once x q = omega arith

pub less-sum : (b o p : ℕ) → less b (o + p) ≡ less (less b o) p
less-sum b o p = less-mod b (o + p) b ((o + p) % 256) refl (sym (mod-mod (o + p) 256)) ∙ less-once b o p ((o + p) % 256) refl

pub shifted-byte : (b o i k : ℕ) → shifted_of b o i k < 256
unfolding shifted_of
shifted-byte b o i k = less-byte (less b o) (i * k)
