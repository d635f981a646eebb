-- What the tables of rings hold, of a sector of 16 n bytes, and that their greatest sums are the modal counts. Assumes nothing.
use Prim.Native.Nat.{ℕ, zero, suc, ◌+◌, ◌*◌, ◌/◌, ◌%◌, ◌≤◌, ◌<◌}
use mathlib.Core.Path.{◌≡◌, refl, sym, ap, ap₂, ◌∙◌}
use mathlib.Core.List.{List}
use native.Mathlib.Nat.{add_assoc, mul-add, mul_comm, mul_assoc}
use native.Mathlib.Omega.{arith}
use lib.ListN.{length}
use Rattle.lists.specs.Bytes.{byte_at}
use Rattle.lists.specs.Counts.{count, greatest, sum}
use Rattle.lists.specs.Pieces.{each}
use Rattle.lists.proofs.Each.{each_at}
use Rattle.lists.proofs.Greatest.{greatest-ext}
use Rattle.lists.proofs.Sums.{sum-ext}
use Rattle.sector.specs.Fit.{shifted_list, modal_of, modal_at}
use Rattle.rings.specs.Class.{class_count, cap}
use Rattle.rings.specs.Table.{tallied_at, doubled_at, folded_at}
use Rattle.rings.specs.Peak.{ring_at, sum_at, peak_at}
use Rattle.classes.specs.Steps.{folded_for, step_peak}
use Rattle.classes.proofs.Classes.{class-le, class-step, class-halves, count-classes}

-- ---- sums that stop at 255

sum-cap : (f : ℕ → ℕ) (n : ℕ) → cap (sum (λ k. cap (f k)) n) ≡ cap (sum f n)
unfolding sum
sum-cap f zero = refl
sum-cap f (suc n) = omega (arith, sum-cap f n)

greatest-cap : (f : ℕ → ℕ) (n : ℕ) → greatest (λ k. cap (f k)) n ≡ cap (greatest f n)
unfolding greatest
greatest-cap f zero = refl
greatest-cap f (suc n) = omega (arith, greatest-cap f n)

-- ---- places of a table

place-16 : (r v : ℕ) → v < 256 → (r * 256 + v) / 256 ≡ r
place-16 r v h = omega arith

value-16 : (r v : ℕ) → v < 256 → (r * 256 + v) % 256 ≡ v
value-16 r v h = omega arith

place-8 : (r y : ℕ) → y < 512 → (r * 512 + y) / 512 ≡ r
place-8 r y h = omega arith

value-8 : (r y : ℕ) → (r * 512 + y) % 256 ≡ y % 256
value-8 r y = omega arith

read-on : (x v k : ℕ) → x ≡ k % 256 → (x + v) % 256 ≡ (v + k) % 256
read-on x v k e = omega arith

-- a value, turned twice
turned-twice : (a b v : ℕ) → (a % 256 + (v + b) % 256) % 256 ≡ (v + (a + b)) % 256
turned-twice a b v = omega arith

small : (c n : ℕ) → c ≤ n → n ≤ 32 → c % 256 ≡ c
small c n h k = omega arith

-- ---- the greatest sums

-- eight rings that hold the counts of eight classes under step s, and stand twice
record Eight (t l : List ℕ) (o s n : ℕ) : Type 0 where
  at : (r y : ℕ) → r < 8 → y < 512 → byte_at t (r * 512 + y) ≡ cap (class_count l 8 r o (8 * s) n (y % 256))

-- they do so under every step that is the same modulo 32
eight-step : (t l : List ℕ) (o s m n : ℕ) → (8 * s) % 256 ≡ (8 * m) % 256 → Eight t l o s n → Eight t l o m n
eight-step t l o s m n e w = record { at = λ r y hr hy. w.at r y hr hy ∙ ap cap (class-step l 8 r o (8 * s) (8 * m) n (y % 256) e) }

module _ (t l : List ℕ) (o s q n : ℕ) (size : 8 * n ≡ length l) (w : Eight t l o (s + 64 * q) n) where
  abbrev step : ℕ
  step = s + 64 * q

  turns : (r : ℕ) → r * s + 64 * (r * q) ≡ r * step
  turns r = ap (λ (x : ℕ). r * s + x) (sym (mul_assoc 64 r q) ∙ ap (λ (x : ℕ). x * q) (mul_comm 64 r) ∙ mul_assoc r 64 q) ∙ sym (mul-add r s (64 * q))

  ring-holds : (r v : ℕ) → r < 8 → ring_at t s r ((v + 64 * (r * q)) % 256) ≡ cap (class_count l 8 r o (8 * step) n ((v + r * step) % 256))
  ring-holds r v hr =
      let y : ℕ = r * s % 256 + (v + 64 * (r * q)) % 256 in
      ap (byte_at t) (add_assoc (r * 512) (r * s % 256) ((v + 64 * (r * q)) % 256))
      ∙ w.at r y hr (omega arith)
      ∙ ap (λ (x : ℕ). cap (class_count l 8 r o (8 * step) n x)) (turned-twice (r * s) (64 * (r * q)) v ∙ ap (λ (x : ℕ). (v + x) % 256) (turns r))

  sum-holds : (v : ℕ) → v < 256 → sum_at t s q v ≡ cap (count v (shifted_list o step l))
  unfolding sum_at
  sum-holds v hv =
      ap cap (sum-ext _ _ 8 (λ r h. ring-holds r v h))
      ∙ sum-cap (λ r. class_count l 8 r o (8 * step) n ((v + r * step) % 256)) 8
      ∙ ap cap (sym (count-classes l 8 n o step v size hv))

  -- THE PEAK of the sums: the modal count of the step, which stops at 255
  peak-modal : peak_at t s q ≡ cap (modal_at o l step)
  unfolding peak_at modal_at modal_of
  peak-modal = greatest-ext _ _ 256 (λ v h. sum-holds v h) ∙ greatest-cap (λ v. count v (shifted_list o step l)) 256

-- ---- sixteen rings, the upper eight of them twice, and eight folded of both, where the bytes were counted under a step that is s modulo 16

module _ (l : List ℕ) (o n : ℕ) (size : 16 * n ≡ length l) (short : n ≤ 32) (sixteen twice : List ℕ) (k s : ℕ) (step : k % 256 ≡ (16 * s) % 256) where
  module _ (counted : sixteen ≡ each (tallied_at l o k) 4096) where
    sixteen-holds : (r v : ℕ) → r < 16 → v < 256 → byte_at sixteen (r * 256 + v) ≡ class_count l 16 r o (16 * s) n v
    sixteen-holds r v hr hv =
        ap (λ (t : List ℕ). byte_at t (r * 256 + v)) counted
        ∙ each_at (tallied_at l o k) 4096 (r * 256 + v) 0 (omega arith)
        ∙ ap₂ (λ (i j : ℕ). class_count l 16 i o k (length l / 16) j % 256) (place-16 r v hv) (value-16 r v hv)
        ∙ ap (λ (h : ℕ). class_count l 16 r o k h v % 256) (omega arith)
        ∙ small (class_count l 16 r o k n v) n (class-le l 16 r o k n v) short
        ∙ class-step l 16 r o k (16 * s) n v step

    module _ (laid : twice ≡ each (doubled_at sixteen) 4096) where
      twice_holds : (r y : ℕ) → r < 8 → y < 512 → byte_at twice (r * 512 + y) ≡ class_count l 16 (r + 8) o (16 * s) n (y % 256)
      twice_holds r y hr hy =
          ap (λ (t : List ℕ). byte_at t (r * 512 + y)) laid
          ∙ each_at (doubled_at sixteen) 4096 (r * 512 + y) 0 (omega arith)
          ∙ ap₂ (λ (i j : ℕ). byte_at sixteen (2048 + i * 256 + j)) (place-8 r y hy) (value-8 r y)
          ∙ ap (byte_at sixteen) (omega arith)
          ∙ sixteen-holds (r + 8) (y % 256) (omega arith) (omega arith)

      module _ (m : ℕ) (turn : m * 8 ≡ (8 * s) % 256) where
        abbrev x : ℕ
        x = m * 8

        abbrev eight : List ℕ
        eight = folded_for sixteen twice m

        eight-holds : (r y : ℕ) → r < 8 → y < 512 → byte_at eight (r * 512 + y) ≡ cap (class_count l 8 r o (8 * s) (2 * n) (y % 256))
        eight-holds r y hr hy =
            let v : ℕ = y % 256 in
            let near : byte_at sixteen (r * 256 + v) ≡ class_count l 16 r o (16 * s) n v = sixteen-holds r v (omega arith) (omega arith) in
            let far : byte_at twice (r * 512 + x + v) ≡ class_count l 16 (r + 8) o (16 * s) n ((v + 8 * s) % 256) =
            ap (byte_at twice) (add_assoc (r * 512) x v)
            ∙ twice_holds r (x + v) hr (omega arith)
            ∙ ap (class_count l 16 (r + 8) o (16 * s) n) (read-on x v (8 * s) turn) in
            each_at (folded_at sixteen twice x) 4096 (r * 512 + y) 0 (omega arith)
            ∙ ap₂ (λ (i j : ℕ). cap (byte_at sixteen (i * 256 + j) + byte_at twice (i * 512 + x + j))) (place-8 r y hy) (value-8 r y)
            ∙ ap₂ (λ (a b : ℕ). cap (a + b)) near far
            ∙ ap cap (sym (class-halves l 8 r o s n v (omega arith)))

        -- THE TABLE OF COUNTS: from these eight rings, at every step that is s modulo 32, the modal count, which stops at 255
        pub folded-peak : (j : ℕ) → j % 32 ≡ s % 32 → step_peak eight j ≡ cap (modal_at o l j)
        folded-peak j e =
            let here : j % 64 + 64 * (j / 64) ≡ j = omega arith in
            peak-modal eight l o (j % 64) (j / 64) (2 * n) (omega arith)
            (eight-step eight l o s (j % 64 + 64 * (j / 64)) (2 * n) (omega arith) (record { at = eight-holds }))
            ∙ ap (λ (i : ℕ). cap (modal_at o l i)) here
