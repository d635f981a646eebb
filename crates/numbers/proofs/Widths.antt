-- Numbers as bytes, over the width: how many bytes, and that they read back. Assumes nothing.
use Prim.Native.Nat.{ℕ, zero, suc, ◌+◌, ◌-◌, ◌*◌, ◌/◌, ◌%◌, ◌<◌, ◌≤◌, ◌^◌}
use mathlib.Core.Path.{◌≡◌, refl, sym, ap, ap₂, ◌∙◌}
use mathlib.Core.List.{List, [], ◌∷◌, ◌++◌}
use native.Mathlib.Omega.{arith}
use native.Mathlib.Nat.{div-div-eq-div-mul}
use Rattle.std.proofs.Common.{mul_comm, pow-suc, w64, take, drop}
use lib.ListN.{length, replicate, length-append}
use Rattle.std.specs.Int.{byte_at, bytes_low_first, bytes_high_first, to_le_bytes, to_be_bytes}
use Rattle.lists.specs.Bytes.{four_bytes}
use Rattle.lists.specs.Pieces.{fold}
use Rattle.lists.proofs.Fold.{fold-last}
use Rattle.numbers.specs.Numbers.{little_bytes, little_endian, big_bytes, and_byte, big_endian, bound, two_bytes, eight_bytes}

pub little-long : (k n : ℕ) → length (little_bytes k n) ≡ k
unfolding little_bytes
little-long zero n = refl
little-long (suc k) n = ap suc (little-long k (n / 256))

pub big-long : (k n : ℕ) → length (big_bytes k n) ≡ k
unfolding big_bytes
big-long zero n = refl
big-long (suc k) n = length-append (big_bytes k (n / 256)) (n % 256 ∷ []) ∙ omega (arith, big-long k (n / 256))

pub little-back : (k n : ℕ) → n < bound k → little_endian (little_bytes k n) ≡ n
unfolding little_bytes little_endian bound
little-back zero n h = omega arith
little-back (suc k) n h = omega (arith, little-back k (n / 256) (omega arith))

big-last : (l : List ℕ) (b : ℕ) → big_endian (l ++ (b ∷ [])) ≡ big_endian l * 256 + b
unfolding big_endian fold
big-last l b = fold-last and_byte 0 l b

pub big-back : (k n : ℕ) → n < bound k → big_endian (big_bytes k n) ≡ n
unfolding big_bytes bound big_endian fold
big-back zero n h = omega arith
big-back (suc k) n h =
    big-last (big_bytes k (n / 256)) (n % 256) ∙ omega (arith, big-back k (n / 256) (omega arith))

-- the first of the bytes, and zeros behind them all
little-none : (k : ℕ) → little_bytes k 0 ≡ replicate k 0
unfolding little_bytes
little-none zero = refl
little-none (suc k) = ap (λ (l : List ℕ). 0 ∷ l) (little-none k)

little-rest :
    (k m j d n : ℕ) → n < bound m → j ≡ k + d → k ≤ m → (k < m → d ≡ 0)
    → take k (little_bytes m n) ++ replicate d 0 ≡ little_bytes j n
unfolding little_bytes bound
little-rest zero zero j d n h e l f =
    let same : d ≡ j = omega arith in
    let none : 0 ≡ n = omega arith in
    ap (λ (i : ℕ). replicate i 0) same ∙ sym (little-none j) ∙ ap (little_bytes j) none
little-rest zero (suc m) zero d n h e l f = ap (λ (i : ℕ). replicate i 0) (f (omega arith))
little-rest zero (suc m) (suc j) d n h e l f = absurd (omega (arith, f (omega arith)))
little-rest (suc k) zero j d n h e l f = absurd (omega arith)
little-rest (suc k) (suc m) zero d n h e l f = absurd (omega arith)
little-rest (suc k) (suc m) (suc j) d n h e l f =
    ap (λ (i : List ℕ). n % 256 ∷ i) (little-rest k m j d (n / 256) (omega arith) (omega arith) (omega arith) (λ q. f (omega arith)))

-- the bytes as the library writes them
byte_at-suc : (k n : ℕ) → byte_at k (n / 256) ≡ byte_at (suc k) n
byte_at-suc zero n = refl
byte_at-suc (suc k) n =
    ap (λ (m : ℕ). m % 256) (div-div-eq-div-mul n 256 (256 ^ suc k) ∙ ap (λ (m : ℕ). n / m) (mul_comm 256 (256 ^ suc k) ∙ sym (pow-suc 256 (suc k))))

low_first-suc : (i k n : ℕ) → bytes_low_first (suc i) k n ≡ bytes_low_first i k (n / 256)
low_first-suc i zero n = refl
low_first-suc i (suc k) n = ap₂ (λ (b : ℕ) (l : List ℕ). b ∷ l) (sym (byte_at-suc i n)) (low_first-suc (suc i) k n)

low_first-little : (k n : ℕ) → bytes_low_first 0 k n ≡ little_bytes k n
unfolding little_bytes
low_first-little zero n = refl
low_first-little (suc k) n = ap (λ (l : List ℕ). n % 256 ∷ l) (low_first-suc 0 k n ∙ low_first-little k (n / 256))

big-front : (k n : ℕ) → big_bytes (suc k) n ≡ byte_at k n ∷ big_bytes k n
unfolding big_bytes
big-front zero n = refl
big-front (suc k) n = ap (λ (l : List ℕ). l ++ (n % 256 ∷ [])) (big-front k (n / 256) ∙ ap (λ (b : ℕ). b ∷ big_bytes k (n / 256)) (byte_at-suc k n))

-- the last of the bytes
big-drop : (d k m n : ℕ) → m ≡ d + k → drop d (big_bytes m n) ≡ big_bytes k n
big-drop zero k m n e =
    let same : m ≡ k = omega arith in ap (λ (j : ℕ). big_bytes j n) same
big-drop (suc d) k zero n e = absurd (omega arith)
big-drop (suc d) k (suc m) n e = ap (drop (suc d)) (big-front m n) ∙ big-drop d k m n (omega arith)

high_first-big : (k n : ℕ) → bytes_high_first k n ≡ big_bytes k n
unfolding big_bytes
high_first-big zero n = refl
high_first-big (suc k) n = ap (λ (l : List ℕ). byte_at k n ∷ l) (high_first-big k n) ∙ sym (big-front k n)

-- the last j bytes: k of eight, and zeros where eight are too few
pub low_little :
    (k j d n : ℕ) → n < 18446744073709551616 → j ≡ k + d → k ≤ 8 → (k < 8 → d ≡ 0)
    → take k (to_le_bytes w64 n) ++ replicate d 0 ≡ little_bytes j n
unfolding bound
low_little k j d n h e l f = ap (λ (i : List ℕ). take k i ++ replicate d 0) (low_first-little 8 n) ∙ little-rest k 8 j d n h e l f

-- the last k bytes of eight

pub low_big : (k n : ℕ) → k ≤ 8 → drop (8 - k) (to_be_bytes w64 n) ≡ big_bytes k n
low_big k n h = ap (drop (8 - k)) (high_first-big 8 n) ∙ big-drop (8 - k) k 8 n (omega arith)

-- two, four and eight bytes
pub two-little : (a b : ℕ) → little_endian (a ∷ b ∷ []) ≡ two_bytes a b
unfolding little_endian
two-little a b = omega arith

pair-low : (a b : ℕ) → a < 256 → (a + 256 * b) % 256 ≡ a
pair-low a b h = omega arith

pair-high : (a b : ℕ) → a < 256 → b < 256 → (a + 256 * b) / 256 % 256 ≡ b
pair-high a b h k = omega arith

pub little-pair : (a b : ℕ) → a < 256 → b < 256 → little_bytes 2 (a + 256 * b) ≡ a ∷ b ∷ []
unfolding little_bytes
little-pair a b h k = ap₂ (λ (x y : ℕ). x ∷ y ∷ []) (pair-low a b h) (pair-high a b h k)

pub four-little : (a b c d : ℕ) → little_endian (a ∷ b ∷ c ∷ d ∷ []) ≡ four_bytes a b c d
unfolding little_endian
four-little a b c d = omega arith

pub eight-little : (a b c d e f g h : ℕ) → little_endian (a ∷ b ∷ c ∷ d ∷ e ∷ f ∷ g ∷ h ∷ []) ≡ eight_bytes a b c d e f g h
unfolding little_endian
eight-little a b c d e f g h = omega arith

pub two-big : (a b : ℕ) → big_endian (b ∷ a ∷ []) ≡ two_bytes a b
unfolding big_endian fold
two-big a b = omega arith

pub eight-big : (a b c d e f g h : ℕ) → big_endian (h ∷ g ∷ f ∷ e ∷ d ∷ c ∷ b ∷ a ∷ []) ≡ eight_bytes a b c d e f g h
unfolding big_endian fold
eight-big a b c d e f g h = omega arith
