-- The next line that is found, and what is kept of one that goes on. Assumes nothing.
use Prim.Native.Nat.{ℕ, ◌+◌, ◌-◌, ◌≤◌, ◌<◌, min}
use mathlib.Core.Path.{◌≡◌, refl, sym, ap, ap₂, ◌∙◌}
use mathlib.Core.Bool.{true, false}
use mathlib.Core.List.{List, [], ◌++◌}
use native.Mathlib.Omega.{arith}
use borrow.Author.Tests.{leb-true, leb-false, lt-ltb, le-ltb, eq-eqb, ne_eqb}
use lib.Dec.{leb, eqb}
use lib.ListN.{length, take, drop, length-take}
use lib.Seq.{take_all, take-append-add, length-take-le}
use Rattle.lists.specs.Pieces.{over}
use Rattle.lists.proofs.Picks.{pick-case}
use Rattle.lists.proofs.Booleans.{and_yes, and-no-left, and-no-right}
use Rattle.lists.proofs.Over.{over-length, over-up-to, over_none}
use Rattle.numbers.specs.Writes.{Wrote}
use Rattle.numbers.proofs.Kept.{kept-room}
use Rattle.lines.specs.Next.{line_end, has_ended, part_at, fitting, kept_in, kept_number, in_block, next_of, line_after}
use Rattle.lines.specs.declared.next.Next.TheVariants.{Here, Begun, Unfinished}
use Rattle.lines.proofs.Newlines.{end_none, end_below}

-- what `keep` puts behind n characters: nothing past the end, else the lesser of the part and the room
module _ (line : List ℕ) (n : ℕ) (part : List ℕ) where
  pub keep-none : length line ≤ n → (n ≡ kept_number line n part) × (line ≡ kept_in line n part)
  keep-none h =
      let z : 0 ≡ length line - n = omega arith in
      (omega (arith, length-take (length line - n) part), sym (over_none line n) ∙ ap (λ (k : ℕ). over line n (take k part)) z)

  pub keep_some : (m r : ℕ) (line' : List ℕ) → n ≤ length line → m ≡ min (length part) (length line - n) → Wrote line n (take m part) line' r
      → (r ≡ kept_number line n part) × (line' ≡ kept_in line n part)
  keep_some m r line' h e w =
      let same : take m part ≡ fitting line n part =
      pick-case (λ (x : ℕ). take m part ≡ fitting line n part) (leb (length part) (length line - n)) 0 0
      (λ t. let b : length part ≤ length line - n = leb-true _ _ t in take_all m part (omega arith) ∙ sym (take_all (length line - n) part b))
      (λ t. let b : length line - n < length part = leb-false _ _ t in let q : m ≡ length line - n = omega arith in ap (λ (k : ℕ). take k part) q) in
      let p = kept-room w (omega (arith, length-take m part)) in
      (p.1 ∙ ap (λ (l : List ℕ). n + length l) same, p.0 ∙ ap (over line n) same)

  -- nothing is put behind them
  pub keep-nothing : part ≡ [] → (n ≡ kept_number line n part) × (line ≡ kept_in line n part)
  keep-nothing e =
      let z : fitting line n part ≡ [] = ap (fitting line n) e ∙ take_all (length line - n) [] (omega arith) in
      (omega (arith, ap length z), sym (over_none line n) ∙ ap (over line n) (sym z))

  -- what is kept is the front of the line
  module _ (h : n ≤ length line) where
    pub kept-within : kept_number line n part ≤ length line
    kept-within = omega (arith, length-take (length line - n) part)

    pub kept-length : length (kept_in line n part) ≡ length line
    kept-length = over-length line (fitting line n part) n kept-within

    pub kept-front : take (kept_number line n part) (kept_in line n part) ≡ take (length line) (take n line ++ part)
    kept-front =
        let s : length (take n line) + (length line - n) ≡ length line = omega (arith, length-take-le n line h) in
        over-up-to line (fitting line n part) n kept-within
        ∙ sym (take-append-add (take n line) part (length line - n))
        ∙ ap (λ (i : ℕ). take i (take n line ++ part)) s

-- what `next_line` answers: a line in the block, or what is kept now
module _ (line : List ℕ) (kept : ℕ) (block : List ℕ) (from end : ℕ) (e : end ≡ line_end block from) where
  pub next_here : end < length block → kept ≡ 0 → (Here end ≡ next_of line kept block from) × (line ≡ line_after line kept block from)
  unfolding next_of line_after
  next_here h z =
      let t : has_ended block from ≡ true = lt-ltb (line_end block from) (length block) (omega arith) in
      let k : in_block kept block from ≡ true = and_yes _ _ t (eq-eqb _ _ z) in
      (rw (t, eq-eqb _ _ z, e), rw k)

  module _ (len m : ℕ) (line' : List ℕ) (w : (len ≡ kept_number line kept (take m (drop from block))) × (line' ≡ kept_in line kept (take m (drop from block)))) where
    -- the part that was kept is what the block has of the line
    module _ (f : m ≡ end - from) where
      same : take m (drop from block) ≡ part_at block from
      same = ap (λ (k : ℕ). take k (drop from block)) (f ∙ ap (λ (k : ℕ). k - from) e)

      len_is : len ≡ kept_number line kept (part_at block from)
      len_is = w.0 ∙ ap (kept_number line kept) same

      after_is : in_block kept block from ≡ false → line' ≡ line_after line kept block from
      unfolding line_after
      after_is k = rw k (w.1 ∙ ap (kept_in line kept) same)

    pub next-begun : end < length block → (kept ≡ 0 → ⊥) → m ≡ end - from → (Begun end len ≡ next_of line kept block from) × (line' ≡ line_after line kept block from)
    unfolding next_of
    next-begun h z f =
        let t : has_ended block from ≡ true = lt-ltb (line_end block from) (length block) (omega arith) in
        (rw (t, ne_eqb kept 0 z) (ap₂ Begun e (len_is f)), after_is f (and-no-right (has_ended block from) (eqb kept 0) (ne_eqb kept 0 z)))

    rest_is : has_ended block from ≡ false → m ≡ end - from → (Unfinished len ≡ next_of line kept block from) × (line' ≡ line_after line kept block from)
    unfolding next_of
    rest_is t f = (rw t (ap Unfinished (len_is f)), after_is f (and-no-left _ _ t))

    pub next-rest : length block ≤ end → from ≤ length block → m ≡ length block - from → (Unfinished len ≡ next_of line kept block from) × (line' ≡ line_after line kept block from)
    next-rest h k f = rest_is (le-ltb (line_end block from) (length block) (omega arith)) (omega (arith, end_below block from k))

  pub next_past : length block ≤ from → (Unfinished kept ≡ next_of line kept block from) × (line ≡ line_after line kept block from)
  next_past h =
      let z : end ≡ from = e ∙ end_none block from h in
      rest_is kept 0 line (keep-nothing line kept [] refl) (le-ltb (line_end block from) (length block) (omega arith)) (omega arith)
