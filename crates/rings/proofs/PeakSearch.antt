-- The greatest sums of eight rings, as they are found: for all four steps, one value of the first quarter after the other. Assumes nothing.
use Rattle.std.proofs.Common.{◌≡◌, ℕ, ◌+◌, ◌<◌, List, length, sym, ap, ◌∙◌, eq-eqb, ne_eqb}
use Rattle.lists.specs.Counts.{greatest}
use Rattle.lists.proofs.Greatest.{greatest-none, greatest-more}
use Rattle.rings.specs.Peak.{sum_at, peak_at, no_peaks, peaks_of}
use Rattle.rings.specs.Quad.{greater_of, tops_of}
use Rattle.rings.specs.declared.quads.Quad.{Quad}
use Rattle.rings.proofs.Quarters.{top_at, greatest-quarters}
use Rattle.rings.proofs.Turns.{steps_of, pair_of, tops-turned}

module _ (t : List ℕ) (s : ℕ) where
  -- the greatest sums at the values below v, and at those that are some quarters on
  pub peaks_to : ℕ → Quad
  peaks_to v = steps_of (λ q. greatest (top_at (sum_at t s q) 64) v)

  pub peaks-none : no_peaks ≡ peaks_to 0
  unfolding peaks_to
  peaks-none = λ i. steps_of (λ q. sym (greatest-none (top_at (sum_at t s q) 64)) i)

  pub peaks-more :
      (v : ℕ) {best p q r u : Quad}
      → v < 64
      → best ≡ peaks_to v
      → p ≡ pair_of t s 0 v
      → q ≡ pair_of t s 1 v
      → r ≡ pair_of t s 2 v
      → u ≡ pair_of t s 3 v
      → greater_of best (tops_of p q r u) ≡ peaks_to (v + 1)
  unfolding peaks_to
  peaks-more v h e p q r u =
      (λ i. greater_of (e i) (tops_of (p i) (q i) (r i) (u i)))
      ∙ ap (greater_of (peaks_to v)) (tops-turned t s v h)
      ∙ (λ i. steps_of (λ q. sym (greatest-more (top_at (sum_at t s q) 64) v) i))

  pub peaks-room : length t ≡ 4096 → peaks_of t s ≡ steps_of (peak_at t s)
  unfolding peaks_of
  peaks-room e = rw (eq-eqb (length t) 4096 e)

  pub peaks-done : length t ≡ 4096 → peaks_to 64 ≡ peaks_of t s
  unfolding peak_at peaks_to
  peaks-done e = (λ i. steps_of (λ q. greatest-quarters (sum_at t s q) 64 i)) ∙ sym (peaks-room e)

  pub peaks-other : (length t ≡ 4096 → ⊥) → no_peaks ≡ peaks_of t s
  unfolding peaks_of
  peaks-other ne = rw (ne_eqb (length t) 4096 ne)
