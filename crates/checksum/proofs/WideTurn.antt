-- A turn of the register of 320 bits: a word goes out of it, and comes back where the sparse relation says. Assumes nothing.
use mathlib.Core.Path.{◌≡◌, sym, ap, ap₂, ◌∙◌}
use mathlib.Core.List.{List}
use Prim.Native.Nat.{ℕ, ◌+◌, ◌-◌, ◌*◌, ◌/◌, ◌%◌, ◌^◌, ◌<◌, ◌≤◌}
use native.Mathlib.Nat.{lt_of_le_of_lt, lt_of_lt_of_le, mod-lt, zero-add, add-zero, mul_assoc}
use native.Mathlib.Omega.{arith}
use lib.Bits.{bit_xor, xor_comm, xor_zero_r, xor_block, xor_lt}
use lib.Dec.{lit<}
use lib.ListN.{length, take, drop, length-drop}
use lib.Pow.{pow_mono, pow-add, split, shr-shr, shl-shr, shr_le}
use Rattle.checksum.specs.Register.{steps, value_of, register_after, wide_register}
use Rattle.checksum.proofs.Steps.{steps-xor, steps-add, steps-shifted, run-back}
use Rattle.checksum.proofs.Sparse.{sparse-300}
use Rattle.checksum.proofs.Words.{word_in, register-xor}

wide-xor : (a0 a1 a2 a3 a4 b0 b1 b2 b3 b4 : ℕ) → a0 < 2 ^ 64 → a1 < 2 ^ 64 → a2 < 2 ^ 64 → a3 < 2 ^ 64
    → b0 < 2 ^ 64 → b1 < 2 ^ 64 → b2 < 2 ^ 64 → b3 < 2 ^ 64
    → bit_xor (wide_register a0 a1 a2 a3 a4) (wide_register b0 b1 b2 b3 b4) ≡ wide_register (bit_xor a0 b0) (bit_xor a1 b1) (bit_xor a2 b2) (bit_xor a3 b3) (bit_xor a4 b4)
unfolding wide_register
wide-xor a0 a1 a2 a3 a4 b0 b1 b2 b3 b4 ha0 ha1 ha2 ha3 hb0 hb1 hb2 hb3 =
    xor_block 64 (((a4 * 2 ^ 64 + a3) * 2 ^ 64 + a2) * 2 ^ 64 + a1) (((b4 * 2 ^ 64 + b3) * 2 ^ 64 + b2) * 2 ^ 64 + b1) a0 b0 ha0 hb0
    ∙ ap (λ (x : ℕ). x * 2 ^ 64 + bit_xor a0 b0)
    (xor_block 64 ((a4 * 2 ^ 64 + a3) * 2 ^ 64 + a2) ((b4 * 2 ^ 64 + b3) * 2 ^ 64 + b2) a1 b1 ha1 hb1
    ∙ ap (λ (x : ℕ). x * 2 ^ 64 + bit_xor a1 b1)
    (xor_block 64 (a4 * 2 ^ 64 + a3) (b4 * 2 ^ 64 + b3) a2 b2 ha2 hb2
    ∙ ap (λ (x : ℕ). x * 2 ^ 64 + bit_xor a2 b2) (xor_block 64 a4 b4 a3 b3 ha3 hb3)))

-- a word shifted up by k: what stays in the word, and what goes into the next
shift-across : (k j x : ℕ) → x * 2 ^ k ≡ x / 2 ^ j * 2 ^ (k + j) + x * 2 ^ k % 2 ^ (k + j)
shift-across k j x =
    sym (split (x * 2 ^ k) (k + j))
    ∙ ap (λ (q : ℕ). q * 2 ^ (k + j) + x * 2 ^ k % 2 ^ (k + j)) (sym (shr-shr (x * 2 ^ k) k j) ∙ ap (λ (n : ℕ). n / 2 ^ j) (shl-shr x k))

-- a word further up
shift_word : (x k y : ℕ) → x * 2 ^ k ≡ y → x * 2 ^ (k + 64) ≡ y * 2 ^ 64 + 0
shift_word x k y e =
    ap (λ (n : ℕ). x * n) (pow-add 2 k 64) ∙ sym (mul_assoc x (2 ^ k) (2 ^ 64)) ∙ ap (λ (z : ℕ). z * 2 ^ 64) e ∙ sym (add-zero (y * 2 ^ 64))

no-word-above : (v u : ℕ) → v * 2 ^ 64 + u ≡ (0 + v) * 2 ^ 64 + u
no-word-above v u = ap (λ (z : ℕ). z * 2 ^ 64 + u) (sym (zero-add v))

-- ---- where the word comes back

shifted-81 : (x : ℕ) → x * 2 ^ 81 ≡ wide_register 0 (x * 2 ^ 17 % 2 ^ 64) (x / 2 ^ 47) 0 0
unfolding wide_register
shifted-81 x = shift_word x 17 _ (shift-across 17 47 x ∙ no-word-above (x / 2 ^ 47) (x * 2 ^ 17 % 2 ^ 64))

shifted-119 : (x : ℕ) → x * 2 ^ 119 ≡ wide_register 0 (x * 2 ^ 55 % 2 ^ 64) (x / 2 ^ 9) 0 0
unfolding wide_register
shifted-119 x = shift_word x 55 _ (shift-across 55 9 x ∙ no-word-above (x / 2 ^ 9) (x * 2 ^ 55 % 2 ^ 64))

shifted-147 : (x : ℕ) → x * 2 ^ 147 ≡ wide_register 0 0 (x * 2 ^ 19 % 2 ^ 64) (x / 2 ^ 45) 0
unfolding wide_register
shifted-147 x = shift_word x 83 _ (shift_word x 19 _ (shift-across 19 45 x ∙ no-word-above (x / 2 ^ 45) (x * 2 ^ 19 % 2 ^ 64)))

shifted-236 : (x : ℕ) → x * 2 ^ 236 ≡ wide_register 0 0 0 (x * 2 ^ 44 % 2 ^ 64) (x / 2 ^ 20)
unfolding wide_register
shifted-236 x = shift_word x 172 _ (shift_word x 108 _ (shift_word x 44 _ (shift-across 44 20 x)))

-- the word at the four places, 300 less 64 steps early
spread : ℕ → ℕ
spread x = bit_xor (x * 2 ^ 81) (bit_xor (x * 2 ^ 119) (bit_xor (x * 2 ^ 147) (x * 2 ^ 236)))

spread-runs : (l x : ℕ) → 300 ≤ l → x < 2 ^ 64 → steps l (steps 64 x) ≡ steps l (spread x)
unfolding spread
spread-runs l x h hx =
    let m = l - 236 in
    let e : l ≡ 236 + m = omega arith in
    let hm : x < 2 ^ m = lt_of_lt_of_le hx (pow_mono {i = 64} {j = m} (omega arith)) in
    ap (λ (n : ℕ). steps n (steps 64 x)) e
    ∙ steps-add 236 m (steps 64 x)
    ∙ ap (steps m) (sym (steps-add 64 236 x))
    ∙ sparse-300 m x hm
    ∙ sym
    (ap (λ (n : ℕ). steps n (bit_xor (x * 2 ^ 81) (bit_xor (x * 2 ^ 119) (bit_xor (x * 2 ^ 147) (x * 2 ^ 236))))) e
    ∙ steps-add 236 m (bit_xor (x * 2 ^ 81) (bit_xor (x * 2 ^ 119) (bit_xor (x * 2 ^ 147) (x * 2 ^ 236))))
    ∙ ap (steps m)
    (steps-xor 236 (x * 2 ^ 81) (bit_xor (x * 2 ^ 119) (bit_xor (x * 2 ^ 147) (x * 2 ^ 236)))
    ∙ ap₂ bit_xor (run-back 81 155 x)
    (steps-xor 236 (x * 2 ^ 119) (bit_xor (x * 2 ^ 147) (x * 2 ^ 236))
    ∙ ap₂ bit_xor (run-back 119 117 x) (steps-xor 236 (x * 2 ^ 147) (x * 2 ^ 236) ∙ ap₂ bit_xor (run-back 147 89 x) (steps-shifted 236 x)))))

four-words : (n2 n3 n4 n5 : ℕ) → ((n5 * 2 ^ 64 + n4) * 2 ^ 64 + n3) * 2 ^ 64 + n2 ≡ wide_register n2 n3 n4 n5 0
unfolding wide_register
four-words n2 n3 n4 n5 = ap (λ (x : ℕ). ((x * 2 ^ 64 + n4) * 2 ^ 64 + n3) * 2 ^ 64 + n2) (sym (zero-add n5))

low-lt : (x k : ℕ) → x * 2 ^ k % 2 ^ 64 < 2 ^ 64
low-lt x k = mod-lt (x * 2 ^ k) (lit< tt)

high_lt : (x j : ℕ) → x < 2 ^ 64 → x / 2 ^ j < 2 ^ 64
high_lt x j h = lt_of_le_of_lt (shr_le x j) h

spread-is : (x : ℕ) → x < 2 ^ 64
    → spread x
    ≡ wide_register 0 (bit_xor (x * 2 ^ 17 % 2 ^ 64) (x * 2 ^ 55 % 2 ^ 64)) (bit_xor (x / 2 ^ 47) (bit_xor (x / 2 ^ 9) (x * 2 ^ 19 % 2 ^ 64)))
    (bit_xor (x / 2 ^ 45) (x * 2 ^ 44 % 2 ^ 64)) (x / 2 ^ 20)
unfolding spread
spread-is x h =
    ap₂ bit_xor (shifted-81 x)
    (ap₂ bit_xor (shifted-119 x)
    (ap₂ bit_xor (shifted-147 x) (shifted-236 x)
    ∙ wide-xor 0 0 (x * 2 ^ 19 % 2 ^ 64) (x / 2 ^ 45) 0 0 0 0 (x * 2 ^ 44 % 2 ^ 64) (x / 2 ^ 20) (lit< tt) (lit< tt) (low-lt x 19) (high_lt x 45 h) (lit< tt) (lit< tt) (lit< tt) (low-lt x 44)
    ∙ ap (λ (y : ℕ). wide_register 0 0 y (bit_xor (x / 2 ^ 45) (x * 2 ^ 44 % 2 ^ 64)) (x / 2 ^ 20)) (xor_zero_r (x * 2 ^ 19 % 2 ^ 64)))
    ∙ wide-xor 0 (x * 2 ^ 55 % 2 ^ 64) (x / 2 ^ 9) 0 0 0 0 (x * 2 ^ 19 % 2 ^ 64) (bit_xor (x / 2 ^ 45) (x * 2 ^ 44 % 2 ^ 64)) (x / 2 ^ 20) (lit< tt) (low-lt x 55) (high_lt x 9 h) (lit< tt) (lit< tt) (lit< tt) (low-lt x 19) (xor_lt 64 (x / 2 ^ 45) (x * 2 ^ 44 % 2 ^ 64) (high_lt x 45 h) (low-lt x 44))
    ∙ ap (λ (y : ℕ). wide_register 0 y (bit_xor (x / 2 ^ 9) (x * 2 ^ 19 % 2 ^ 64)) (bit_xor (x / 2 ^ 45) (x * 2 ^ 44 % 2 ^ 64)) (x / 2 ^ 20)) (xor_zero_r (x * 2 ^ 55 % 2 ^ 64)))
    ∙ wide-xor 0 (x * 2 ^ 17 % 2 ^ 64) (x / 2 ^ 47) 0 0 0 (x * 2 ^ 55 % 2 ^ 64) (bit_xor (x / 2 ^ 9) (x * 2 ^ 19 % 2 ^ 64)) (bit_xor (x / 2 ^ 45) (x * 2 ^ 44 % 2 ^ 64)) (x / 2 ^ 20) (lit< tt) (low-lt x 17) (high_lt x 47 h) (lit< tt) (lit< tt) (low-lt x 55) (xor_lt 64 (x / 2 ^ 9) (x * 2 ^ 19 % 2 ^ 64) (high_lt x 9 h) (low-lt x 19)) (xor_lt 64 (x / 2 ^ 45) (x * 2 ^ 44 % 2 ^ 64) (high_lt x 45 h) (low-lt x 44))

-- ---- the turn

-- the words of the register are words
pub record FiveWords (n1 n2 n3 n4 n5 : ℕ) : Type 0 where
  pub l1 : n1 < 2 ^ 64
  pub l2 : n2 < 2 ^ 64
  pub l3 : n3 < 2 ^ 64
  pub l4 : n4 < 2 ^ 64
  pub l5 : n5 < 2 ^ 64

-- the words after a turn that takes x out: second, third and fourth; the first is the old second, the fifth x / 2 ^ 20
module _ (n3 n4 n5 x : ℕ) where
  abbrev pub second : ℕ
  second = bit_xor n3 (bit_xor (x * 2 ^ 17 % 2 ^ 64) (x * 2 ^ 55 % 2 ^ 64))

  abbrev pub third : ℕ
  third = bit_xor n4 (bit_xor (x / 2 ^ 47) (bit_xor (x / 2 ^ 9) (x * 2 ^ 19 % 2 ^ 64)))

  abbrev pub fourth : ℕ
  fourth = bit_xor n5 (bit_xor (x / 2 ^ 45) (x * 2 ^ 44 % 2 ^ 64))

pub turned-words : (n1 n2 n3 n4 n5 x : ℕ) → FiveWords n1 n2 n3 n4 n5 → x < 2 ^ 64 → FiveWords n2 (second n3 n4 n5 x) (third n3 n4 n5 x) (fourth n3 n4 n5 x) (x / 2 ^ 20)
turned-words n1 n2 n3 n4 n5 x f h =
    record {
      l1 = f.l2;
      l2 = xor_lt 64 _ _ f.l3 (xor_lt 64 _ _ (low-lt x 17) (low-lt x 55));
      l3 = xor_lt 64 _ _ f.l4 (xor_lt 64 _ _ (high_lt x 47 h) (xor_lt 64 _ _ (high_lt x 9 h) (low-lt x 19)));
      l4 = xor_lt 64 _ _ f.l5 (xor_lt 64 _ _ (high_lt x 45 h) (low-lt x 44));
      l5 = high_lt x 20 h;
    }

pub turned : (s : List ℕ) (i n1 n2 n3 n4 n5 w : ℕ) → i + 48 ≤ length s → FiveWords n1 n2 n3 n4 n5 → w ≡ value_of (take 8 (drop i s)) → w < 2 ^ 64
    → register_after (wide_register n1 n2 n3 n4 n5) (drop i s)
    ≡ register_after (wide_register n2 (second n3 n4 n5 (bit_xor w n1)) (third n3 n4 n5 (bit_xor w n1)) (fourth n3 n4 n5 (bit_xor w n1)) (bit_xor w n1 / 2 ^ 20)) (drop (i + 8) s)
unfolding wide_register
turned s i n1 n2 n3 n4 n5 w h f p hw =
    let x = bit_xor w n1 in
    let hx : x < 2 ^ 64 = xor_lt 64 w n1 hw f.l1 in
    let a = ((n5 * 2 ^ 64 + n4) * 2 ^ 64 + n3) * 2 ^ 64 + n2 in
    let l = drop (i + 8) s in
    let hl : 300 ≤ 8 * length l = omega (arith, length-drop (i + 8) s) in
    word_in s i a n1 (omega arith) f.l1
    ∙ ap (λ (y : ℕ). register_after (bit_xor (steps 64 (bit_xor y n1)) a) l) (sym p)
    ∙ register-xor (steps 64 x) a l
    ∙ ap (λ (y : ℕ). bit_xor y (register_after a l)) (spread-runs (8 * length l) x hl hx)
    ∙ sym (register-xor (spread x) a l)
    ∙ ap (λ (y : ℕ). register_after y l)
    (xor_comm (spread x) a
    ∙ ap₂ bit_xor (four-words n2 n3 n4 n5) (spread-is x hx)
    ∙ wide-xor n2 n3 n4 n5 0 0 _ _ _ (x / 2 ^ 20) f.l2 f.l3 f.l4 f.l5 (lit< tt)
    (xor_lt 64 _ _ (low-lt x 17) (low-lt x 55))
    (xor_lt 64 _ _ (high_lt x 47 hx) (xor_lt 64 _ _ (high_lt x 9 hx) (low-lt x 19)))
    (xor_lt 64 _ _ (high_lt x 45 hx) (low-lt x 44))
    ∙ ap (λ (y : ℕ). wide_register y (second n3 n4 n5 x) (third n3 n4 n5 x) (fourth n3 n4 n5 x) (x / 2 ^ 20)) (xor_zero_r n2))
