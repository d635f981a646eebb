-- The fit of a sector that no byte breaks: under another step no two neighbours agree, and under the one 128 away each even byte does. Assumes nothing.
use Rattle.std.proofs.Common.{◌≡◌, ℕ, suc, ◌+◌, ◌*◌, ◌/◌, ◌%◌, ◌<◌, ◌≤◌, List, length, replicate, sym, ap, ◌∙◌, arith, eqb-true}
use Rattle.lists.specs.Bytes.{less, byte_at}
use Rattle.lists.specs.Counts.{count, all_same}
use Rattle.lists.proofs.Greatest.{greatest-above, greatest-below}
use Rattle.lists.proofs.Neighbours.{count-apart, count-even}
use Rattle.lists.proofs.Plain.{less-byte}
use Rattle.sector.specs.Fit.{shifted_list, modal_of, modal_at, step_of, fit_of, sector_of}
use Rattle.sector.specs.declared.fits.Fit.{Fit}
use Rattle.sector.proofs.Exact.{exact-shifted}
use Rattle.sector.proofs.Shifts.{shift-length}
use Rattle.quick.specs.Line.{line_at, first_step, break_at, exact_fit}
use Rattle.quick.proofs.Lines.{line-next}
use Rattle.quick.proofs.Shifted.{line-shifted}
use Rattle.quick.proofs.Exact.{unbroken, unbroken-shifted, unbroken-same}
use Rattle.quick.proofs.Lone.{lone-greatest, lone-place, lone-ties, lone-second}

-- the step 128 away
abbrev opposite : ℕ → ℕ
opposite s = (s + 128) % 256

opposite-less : (s : ℕ) → s < 256 → less s (opposite s) ≡ 128
opposite-less s h = omega arith

even-same : (y i : ℕ) → y < 256 → line_at y 128 (2 * i) ≡ y
even-same y i h = omega arith

stays : (r d : ℕ) → d < 256 → (r + d) % 256 ≡ r → d ≡ 0
stays r d h e = omega arith

same_step : (s k : ℕ) → s < 256 → k < 256 → less s k ≡ 0 → k ≡ s
same_step s k hs hk e = omega arith

module _ (o : ℕ) (l : List ℕ) (e : break_at l ≡ length l) (two : 2 ≤ length l) where
  small : first_step l < 256
  small = less-byte (byte_at l 1) (byte_at l 0)

  under : (k i : ℕ) → k < 256 → i < length l → byte_at (shifted_list o k l) i ≡ line_at (less (byte_at l 0) o) (less (first_step l) k) i
  under k i hk h = line-shifted o (byte_at l 0) (first_step l) k l small hk (unbroken l e) i h

  -- under its own step all bytes agree
  own : modal_at o l (first_step l) ≡ length l
  unfolding modal_at
  own =
      let bytes : List ℕ = shifted_list o (first_step l) l in
      eqb-true (modal_of bytes) (length bytes) (exact-shifted o (first_step l) l ∙ unbroken-same o l e) ∙ shift-length o (first_step l) 0 l

  -- under any other no two neighbours do
  differ :
      (k v i : ℕ)
      → k < 256
      → (k ≡ first_step l → ⊥)
      → suc i < length (shifted_list o k l)
      → byte_at (shifted_list o k l) i ≡ v
      → byte_at (shifted_list o k l) (suc i) ≡ v
      → ⊥
  differ k v i hk ne h a b =
      let size : length (shifted_list o k l) ≡ length l = shift-length o k 0 l in
      let y : ℕ = less (byte_at l 0) o in
      let d : ℕ = less (first_step l) k in
      let now : v ≡ line_at y d i = sym a ∙ under k i hk (omega arith) in
      let next : v ≡ line_at y d (i + 1) = sym b ∙ ap (byte_at (shifted_list o k l)) (omega arith) ∙ under k (i + 1) hk (omega arith) in
      ne (same_step (first_step l) k small hk (stays v d (less-byte (first_step l) k) (line-next y d i v now ∙ sym next)))

  others : (k : ℕ) → k < 256 → (k ≡ first_step l → ⊥) → modal_at o l k ≤ (length l + 1) / 2
  unfolding modal_at modal_of
  others k hk ne =
      greatest-below (λ v. count v (shifted_list o k l)) 256 ((length l + 1) / 2)
      (λ v hv. omega (arith, shift-length o k 0 l, count-apart v (shifted_list o k l) (λ i h a b. differ k v i hk ne h a b)))

  -- under the one 128 away each even one does
  abbrev far : ℕ
  far = opposite (first_step l)

  far-small : far < 256
  far-small = omega arith

  far-other : far ≡ first_step l → ⊥
  far-other q = omega (arith, q, small)

  evens : (i : ℕ) → 2 * i < length (shifted_list o far l) → byte_at (shifted_list o far l) (2 * i) ≡ less (byte_at l 0) o
  evens i h =
      let size : length (shifted_list o far l) ≡ length l = shift-length o far 0 l in
      let y : ℕ = less (byte_at l 0) o in
      under far (2 * i) far-small (omega arith)
      ∙ ap (λ (d : ℕ). line_at y d (2 * i)) (opposite-less (first_step l) small)
      ∙ even-same y i (less-byte (byte_at l 0) o)

  far-half : modal_at o l far ≡ (length l + 1) / 2
  unfolding modal_at modal_of
  far-half =
      let y : ℕ = less (byte_at l 0) o in
      let bytes : List ℕ = shifted_list o far l in
      let some : count y bytes ≤ modal_of bytes = greatest-above (λ v. count v bytes) 256 y (less-byte (byte_at l 0) o) in
      omega (arith, some, shift-length o far 0 l, count-even y bytes evens, others far far-small far-other)

  high : (length l + 1) / 2 < modal_at o l (first_step l)
  high = omega (arith, own)

  -- THE FIT: the step of the first two bytes, all bytes, every second one, exact, and no other step ties
  pub unbroken-fit : fit_of o l ≡ exact_fit (first_step l) (length l)
  unfolding fit_of
  unbroken-fit =
      let f : ℕ → ℕ = modal_at o l in
      let s : ℕ = first_step l in
      let h : ℕ = (length l + 1) / 2 in
      let place : step_of f ≡ s = lone-place f 256 s h small others high in
      λ i. record {
        step = place i;
        peak = (lone-greatest f 256 s h small others high ∙ own) i;
        runner_up = lone-second f 256 s h small others high far far-small far-other far-half i;
        exact = (ap (λ (k : ℕ). all_same (shifted_list o k l)) place ∙ unbroken-same o l e) i;
        tied = lone-ties f 256 s h small others high i;
      }

  -- and the shifted bytes under it
  pub unbroken-sector : sector_of o l ≡ replicate (length l) (less (byte_at l 0) o)
  unfolding sector_of
  unbroken-sector = ap (λ (f : Fit). shifted_list o f.step l) unbroken-fit ∙ unbroken-shifted o l e
