-- The sum of eight rings at four values a quarter of a ring apart: pairs of rings, turned by quarters and added. Assumes nothing.
use Rattle.std.proofs.Common.{◌≡◌, ℕ, ◌+◌, ◌*◌, ◌%◌, ◌<◌, max, List, sym, ap, ◌∙◌, ap₂, add_assoc, arith}
use Rattle.lists.specs.Bytes.{byte_at}
use Rattle.lists.specs.Counts.{sum}
use Rattle.rings.specs.Class.{cap}
use Rattle.rings.specs.Peak.{ring_at, sum_at}
use Rattle.rings.specs.Quad.{four_of, tops_of}
use Rattle.rings.specs.declared.quads.Quad.{Quad}
use Rattle.rings.proofs.Quarters.{top_at}

-- a sum may stop at 255 on the way
cap-two : (a b : ℕ) → cap (cap a + cap b) ≡ cap (a + b)
cap-two a b = omega arith

cap-four : (a b c d : ℕ) → cap (cap (cap a + cap b) + cap (cap c + cap d)) ≡ cap (a + b + (c + d))
cap-four a b c d = ap₂ (λ (x y : ℕ). cap (x + y)) (cap-two a b) (cap-two c d) ∙ cap-two (a + b) (c + d)

-- eight numbers, added in the order of the code
abbrev added : (ℕ → ℕ) → ℕ
added f = cap (cap (cap (f 0 + f 4) + cap (f 2 + f 6)) + cap (cap (f 1 + f 5) + cap (f 3 + f 7)))

cap-eight : (f : ℕ → ℕ) → cap (sum f 8) ≡ added f
unfolding sum
cap-eight f = ap cap (omega arith) ∙ sym (cap-four (f 0 + f 4) (f 2 + f 6) (f 1 + f 5) (f 3 + f 7))

-- four quarters are a whole turn
turn-round : (v j n w : ℕ) → v < 64 → w ≡ v + 64 * j → (w + 64 * n) % 256 ≡ v + 64 * ((j + n) % 4)
turn-round v j n w h e = omega arith

-- a number for each of the four steps
abbrev pub steps_of : (ℕ → ℕ) → Quad
steps_of f = record { a = f 0; b = f 1; c = f 2; d = f 3 }

module _ (t : List ℕ) (s : ℕ) where
  -- a ring at v and at the three values a quarter apart
  pub ring-four : (r v : ℕ) → four_of (λ y. byte_at t (r * 512 + r * s % 256 + v + y)) ≡ four_of (λ y. ring_at t s r (v + y))
  ring-four r v = λ i. four_of (λ y. byte_at t (add_assoc (r * 512 + r * s % 256) v y i))

  -- rings r and r + 4 together
  abbrev pub pair_of : ℕ → ℕ → Quad
  pair_of r v = four_of (λ y. cap (ring_at t s r (v + y) + ring_at t s (r + 4) (v + y)))

  -- ring r, j quarters on from v, where it is turned further by r times q quarters
  abbrev turned_at : ℕ → ℕ → ℕ → ℕ → ℕ
  turned_at v q j r = ring_at t s r (v + 64 * ((j + r * q) % 4))

  module _ (v : ℕ) (h : v < 64) where
    sum-turned : (q j w : ℕ) → w ≡ v + 64 * j → sum_at t s q w ≡ added (turned_at v q j)
    unfolding sum_at
    sum-turned q j w e = (λ i. cap (sum (λ r. ring_at t s r (turn-round v j (r * q) w h e i)) 8)) ∙ cap-eight (turned_at v q j)

    top-turned :
        (q : ℕ)
        → top_at (sum_at t s q) 64 v
        ≡ max (max (added (turned_at v q 0)) (added (turned_at v q 1))) (max (added (turned_at v q 2)) (added (turned_at v q 3)))
    top-turned q =
        ap₂ max
        (ap₂ max (sum-turned q 0 v (omega arith)) (sum-turned q 1 (64 + v) (omega arith)))
        (ap₂ max (sum-turned q 2 (128 + v) (omega arith)) (sum-turned q 3 (128 + (64 + v)) (omega arith)))

    -- THE FOUR STEPS: where q is a number, each ring of a sum stands in one of the four places of its pair, so both sides compute to the same
    pub tops-turned : tops_of (pair_of 0 v) (pair_of 1 v) (pair_of 2 v) (pair_of 3 v) ≡ steps_of (λ q. top_at (sum_at t s q) 64 v)
    tops-turned = λ i. steps_of (λ q. sym (top-turned q) i)
