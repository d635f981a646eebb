-- The folding as the code does it: none, one octet more, all of them. Assumes nothing.
use mathlib.Core.Path.{◌≡◌, refl, sym, ap, ap₂, ◌∙◌}
use mathlib.Core.List.{List, ◌∷◌, ◌++◌}
use mathlib.Core.Logic.{◌⊎◌, inl, inr, ⊎_elim}
use Prim.Native.Nat.{ℕ, zero, suc, ◌+◌, ◌-◌, ◌/◌, ◌%◌, ◌^◌, ◌<◌, ◌≤◌}
use native.Mathlib.Nat.{add_comm, eq-zero-or-pos, not-suc-le-zero}
use native.Mathlib.Omega.{arith}
use borrow.Author.Count.{below_more}
use lib.Bits.{bit_xor}
use lib.ListN.{length, get_or, take, drop, set, replicate, length-set, length-take, length-drop, get_or-eq_default, get_or-append}
use lib.Seq.{get_or-take, get_or-drop, get_or-set_same, get_or-set_other, take-set-le, take-take, length-take-le, get_or-append-add}
use Rattle.checksum.specs.Register.{register_after}
use Rattle.crc.specs.Folds.{folded_at, Folding, LeftOver}
use Rattle.crc.proofs.Elimination.{elimination}

lt-or-le : (i k : ℕ) → (i < k) ⊎ (k ≤ i)
lt-or-le i k = ⊎_elim (λ e. inr (omega arith)) (λ h. inl (omega arith)) (eq-zero-or-pos (k - i))

-- the sum at k goes by what stands at four places
folded-by : (s a b : List ℕ) (k : ℕ) → get_or a (k + 155) 0 ≡ get_or b (k + 155) 0 → get_or a (k + 117) 0 ≡ get_or b (k + 117) 0
    → get_or a (k + 89) 0 ≡ get_or b (k + 89) 0 → get_or a k 0 ≡ get_or b k 0 → folded_at s a k ≡ folded_at s b k
folded-by s a b k e1 e2 e3 e4 = ap₂ bit_xor (ap₂ bit_xor (ap₂ bit_xor (ap (bit_xor (get_or s k 0)) e1) e2) e3) e4

folded-kept : (s a : List ℕ) (j v k : ℕ) → k ≤ j → folded_at s (set a (j + 300) v) k ≡ folded_at s a k
folded-kept s a j v k h =
    folded-by s (set a (j + 300) v) a k
    (get_or-set_other a (j + 300) (k + 155) v 0 (omega arith))
    (get_or-set_other a (j + 300) (k + 117) v 0 (omega arith))
    (get_or-set_other a (j + 300) (k + 89) v 0 (omega arith))
    (get_or-set_other a (j + 300) k v 0 (omega arith))

-- ---- the start

lead-cells : {a0 a1 a2 a3 b0 b1 b2 b3 : ℕ} → a0 ≡ b0 → a1 ≡ b1 → a2 ≡ b2 → a3 ≡ b3
    → ◌≡◌ {A = List ℕ} (a0 ∷ a1 ∷ a2 ∷ a3 ∷ replicate 296 0) (b0 ∷ b1 ∷ b2 ∷ b3 ∷ replicate 296 0)
lead-cells e0 e1 e2 e3 = cc

get_or-zeros : (n i : ℕ) → ◌≡◌ {A = ℕ} (get_or (replicate n 0) i 0) 0
get_or-zeros zero i = refl
get_or-zeros (suc n) zero = refl
get_or-zeros (suc n) (suc i) = get_or-zeros n i

beyond-lead : (b0 b1 b2 b3 n i : ℕ) → 300 ≤ i → get_or (b0 ∷ b1 ∷ b2 ∷ b3 ∷ replicate n 0) i 0 ≡ 0
beyond-lead b0 b1 b2 b3 n zero h = omega arith
beyond-lead b0 b1 b2 b3 n (suc zero) h = omega arith
beyond-lead b0 b1 b2 b3 n (suc (suc zero)) h = omega arith
beyond-lead b0 b1 b2 b3 n (suc (suc (suc zero))) h = omega arith
beyond-lead b0 b1 b2 b3 n (suc (suc (suc (suc i)))) h = get_or-zeros n i

-- ---- one octet after the other

pub folding-none : (c : ℕ) (s : List ℕ) (b0 b1 b2 b3 : ℕ) → b0 ≡ c % 2 ^ 8 → b1 ≡ c / 2 ^ 8 % 2 ^ 8 → b2 ≡ c / 2 ^ 16 % 2 ^ 8 → b3 ≡ c / 2 ^ 24 % 2 ^ 8
    → Folding c s (b0 ∷ b1 ∷ b2 ∷ b3 ∷ replicate 4392 0) 0
folding-none c s b0 b1 b2 b3 e0 e1 e2 e3 =
    record {
      size = refl;
      lead = lead-cells e0 e1 e2 e3;
      so_far = λ k h. absurd (not-suc-le-zero h);
      not_yet = λ i h. beyond-lead b0 b1 b2 b3 4392 i h;
    }

pub folding-more : (c : ℕ) (s a : List ℕ) (j : ℕ) → j < 4096 → Folding c s a j → Folding c s (set a (j + 300) (folded_at s a j)) (j + 1)
folding-more c s a j h f =
    let v = folded_at s a j in
    record {
      size = length-set a (j + 300) v ∙ f.size;
      lead = take-set-le 300 a (j + 300) v (omega arith) ∙ f.lead;
      so_far = below_more (λ k. get_or (set a (j + 300) v) (k + 300) 0 ≡ folded_at s (set a (j + 300) v) k) j
          (λ k hk. get_or-set_other a (j + 300) (k + 300) v 0 (omega arith) ∙ f.so_far k hk ∙ sym (folded-kept s a j v k (omega arith)))
          (get_or-set_same a (j + 300) v 0 (omega (arith, f.size)) ∙ sym (folded-kept s a j v j (omega arith)));
      not_yet = λ i hi. get_or-set_other a (j + 300) i v 0 (omega arith) ∙ f.not_yet i (omega arith);
    }

pub left-more : (s a t : List ℕ) (j m : ℕ) → m < 304 → LeftOver s a t j m → LeftOver s a (set t m (folded_at s a (j + m))) j (m + 1)
left-more s a t j m h f =
    let v = folded_at s a (j + m) in
    record {
      size = length-set t m v ∙ f.size;
      so_far = below_more (λ k. get_or (set t m v) k 0 ≡ folded_at s a (j + k)) m
          (λ k hk. get_or-set_other t m k v 0 (omega arith) ∙ f.so_far k hk)
          (get_or-set_same t m v 0 (omega (arith, f.size)));
    }

-- ---- all of them

module _ (c : ℕ) (hc : c < 2 ^ 32) (s a t : List ℕ) (cut : ℕ) (big : 300 ≤ cut) (n : length s ≡ cut + 4) (small : length s ≤ 4096)
    (f : Folding c s a (cut - 300)) (g : LeftOver s a t (cut - 300) 304) where
  -- the sums that are filled in: those before the cut
  used : List ℕ
  used = take cut a

  used-same : (i : ℕ) → get_or used i 0 ≡ get_or a i 0
  unfolding used
  used-same i =
      ⊎_elim (λ h. get_or-take cut a i 0 h)
      (λ h. get_or-eq_default (take cut a) 0 (omega (arith, length-take cut a)) ∙ sym (f.not_yet i (omega arith))) (lt-or-le i cut)

  used-folded : (k : ℕ) → folded_at s a k ≡ folded_at s used k
  used-folded k = folded-by s a used k (sym (used-same (k + 155))) (sym (used-same (k + 117))) (sym (used-same (k + 89))) (sym (used-same k))

  used-length : length used ≡ cut
  unfolding used
  used-length = length-take-le cut a (omega (arith, f.size))

  early : (k : ℕ) → k < cut - 300 → get_or (drop 300 used ++ t) k 0 ≡ folded_at s used k
  early k h =
      get_or-append (drop 300 used) t 0 k (omega (arith, length-drop 300 used, used-length))
      ∙ get_or-drop 300 used k 0 ∙ ap (λ (i : ℕ). get_or used i 0) (add_comm 300 k) ∙ used-same (k + 300) ∙ f.so_far k h ∙ used-folded k

  late : (k : ℕ) → cut - 300 ≤ k → k < cut + 4 → get_or (drop 300 used ++ t) k 0 ≡ folded_at s used k
  late k l h =
      let m = k - (cut - 300) in
      let d : k ≡ length (drop 300 used) + m = omega (arith, length-drop 300 used, used-length) in
      let q : cut - 300 + m ≡ k = omega arith in
      ap (λ (i : ℕ). get_or (drop 300 used ++ t) i 0) d
      ∙ get_or-append-add (drop 300 used) t m 0 ∙ g.so_far m (omega arith) ∙ ap (folded_at s a) q ∙ used-folded k

  pub folding-done : register_after 0 t ≡ register_after c s
  unfolding used
  folding-done =
      elimination c hc s used t cut big n used-length g.size (take-take 300 cut a big ∙ f.lead)
      (λ k h. ⊎_elim (λ l. early k l) (λ l. late k l h) (lt-or-le k (cut - 300)))
