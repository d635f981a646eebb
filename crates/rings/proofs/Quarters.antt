-- The greatest of some numbers by quarters: the four that are a quarter apart, at each place of the first. Assumes nothing.
use Rattle.std.proofs.Common.{◌≡◌, ℕ, ◌+◌, max, sym, ◌∙◌, ap₂}
use Rattle.lists.specs.Counts.{greatest}
use Rattle.lists.proofs.Greatest.{greatest-ahead, greatest-max}

greatest-halves : (f : ℕ → ℕ) (w : ℕ) → greatest f (w + w) ≡ greatest (λ k. max (f k) (f (w + k))) w
greatest-halves f w = greatest-ahead f w w ∙ sym (greatest-max f (λ k. f (w + k)) w)

-- the greatest of the four numbers a quarter w apart, from k on
abbrev pub top_at : (ℕ → ℕ) → ℕ → ℕ → ℕ
top_at f w k = max (max (f k) (f (w + k))) (max (f (w + w + k)) (f (w + w + (w + k))))

pub greatest-quarters : (f : ℕ → ℕ) (w : ℕ) → greatest (top_at f w) w ≡ greatest f (w + w + (w + w))
greatest-quarters f w =
    greatest-max (λ k. max (f k) (f (w + k))) (λ k. max (f (w + w + k)) (f (w + w + (w + k)))) w
    ∙ sym (ap₂ max (greatest-halves f w) (greatest-halves (λ k. f (w + w + k)) w))
    ∙ sym (greatest-ahead f (w + w) (w + w))
