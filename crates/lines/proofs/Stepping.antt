-- The step of a program that answers lines, on its way, and the ways out of it: for any reply with a bound. Assumes nothing.
use Prim.Native.Nat.{ℕ, suc, ◌+◌, ◌-◌, ◌≤◌, ◌<◌}
use mathlib.Core.Path.{◌≡◌, refl, sym, ap, ap₂, ◌∙◌}
use mathlib.Core.Bool.{Bool, true, false}
use mathlib.Core.List.{List, [], ◌++◌, append-nil, append_assoc}
use native.Mathlib.Omega.{arith}
use borrow.Author.Tests.{ltb-true, ltb-false, ne_eqb, eqb-true}
use lib.Dec.{ltb, eqb}
use lib.ListN.{length, take, drop, length-take, length-drop, drop_of_length-le}
use lib.Seq.{take_all, length-take-le, drop-drop}
use Rattle.lists.specs.Cases.{pick}
use Rattle.lists.specs.Pieces.{over}
use Rattle.lists.proofs.Picks.{pick-case, pick-false}
use Rattle.lists.proofs.Booleans.{and-no-left, and-no-right}
use Rattle.lists.proofs.Over.{over-up-to}
use Rattle.lines.specs.Input.{output_from, up_to, last_reply, Bounded}
use Rattle.lines.specs.Next.{line_end, has_ended, part_at, kept_in, kept_number, in_block, next_of, line_after}
use Rattle.lines.specs.Steps.{Steps, Replied, Stepped}
use Rattle.lines.specs.declared.next.Next.TheVariants.{Here, Begun, Unfinished}
use Rattle.lines.proofs.Newlines.{end-above}
use Rattle.lines.proofs.Output.{output-line, output-part, same-output, bounded-more}
use Rattle.lines.proofs.Found.{kept-within, kept-length, kept-front}

-- the invariant of a step's loop: what it has done so far
pub record Stepping (reply : List ℕ → List ℕ) (line₀ : List ℕ) (kept : ℕ) (block : List ℕ) (from : ℕ) (out₀ line : List ℕ) (len : ℕ) (out : List ℕ) (waiting at : ℕ) : Type 0 where
  pub done : Steps reply (take kept line₀) (drop from block) (take waiting out) (take len line) (drop at block)
  pub held : len ≤ length line
  pub fits : waiting ≤ length out
  pub since : from ≤ at
  pub first : at ≤ from → waiting ≡ 0
  pub room : length line ≡ length line₀
  pub size : length out ≡ length out₀

-- the next line that was found: which of the three it is, and what a line that has not ended leaves to be kept
module _ (line : List ℕ) (kept : ℕ) (block : List ℕ) (from : ℕ) where
  here_is : (end : ℕ) → Here end ≡ next_of line kept block from → (end ≡ line_end block from) × (line_end block from < length block) × (kept ≡ 0)
  unfolding next_of
  here_is end e = go (has_ended block from) (eqb kept 0) refl refl e
    where
      go : (b d : Bool) → has_ended block from ≡ b → eqb kept 0 ≡ d
          → Here end ≡ pick b (pick d (Here (line_end block from)) (Begun (line_end block from) (kept_number line kept (part_at block from)))) (Unfinished (kept_number line kept (part_at block from)))
          → (end ≡ line_end block from) × (line_end block from < length block) × (kept ≡ 0)
      go true true p q r = (cc, ltb-true _ _ p, eqb-true _ _ q)
      go true false p q r = cc
      go false d p q r = cc

  begun_is : (end n : ℕ) → Begun end n ≡ next_of line kept block from
      → (end ≡ line_end block from) × (line_end block from < length block) × (n ≡ kept_number line kept (part_at block from)) × (in_block kept block from ≡ false)
  unfolding next_of
  begun_is end n e = go (has_ended block from) (eqb kept 0) refl refl e
    where
      go : (b d : Bool) → has_ended block from ≡ b → eqb kept 0 ≡ d
          → Begun end n ≡ pick b (pick d (Here (line_end block from)) (Begun (line_end block from) (kept_number line kept (part_at block from)))) (Unfinished (kept_number line kept (part_at block from)))
          → (end ≡ line_end block from) × (line_end block from < length block) × (n ≡ kept_number line kept (part_at block from)) × (in_block kept block from ≡ false)
      go true true p q r = cc
      go true false p q r = (cc, ltb-true _ _ p, cc, and-no-right (has_ended block from) (eqb kept 0) q)
      go false d p q r = cc

  unfinished_is : (n : ℕ) → Unfinished n ≡ next_of line kept block from
      → (length block ≤ line_end block from) × (n ≡ kept_number line kept (part_at block from)) × (in_block kept block from ≡ false)
  unfolding next_of
  unfinished_is n e = go (has_ended block from) (eqb kept 0) refl e
    where
      go : (b d : Bool) → has_ended block from ≡ b
          → Unfinished n ≡ pick b (pick d (Here (line_end block from)) (Begun (line_end block from) (kept_number line kept (part_at block from)))) (Unfinished (kept_number line kept (part_at block from)))
          → (length block ≤ line_end block from) × (n ≡ kept_number line kept (part_at block from)) × (in_block kept block from ≡ false)
      go true true p r = cc
      go true false p r = cc
      go false d p r = (ltb-false _ _ p, cc, and-no-left (has_ended block from) (eqb kept 0) p)

  end-splits : line_end block from ≡ from + up_to (drop from block)
  unfolding line_end
  end-splits = refl

  -- the places of a line that has ended
  pub here-within : (end : ℕ) → Here end ≡ next_of line kept block from → (from ≤ end) × (end < length block)
  here-within end e = let p = here_is end e in (omega (arith, p.0, end-above block from), omega (arith, p.0, p.1))

  module _ (h : kept ≤ length line) (line' : List ℕ) (f : line' ≡ line_after line kept block from) where
    pub next-length : length line' ≡ length line
    unfolding line_after
    next-length =
        ap length f
        ∙ pick-case (λ (l : List ℕ). length l ≡ length line) (in_block kept block from) line (kept_in line kept (part_at block from))
        (λ t. refl) (λ t. kept-length line kept (part_at block from) h)

    held : (n : ℕ) → n ≡ kept_number line kept (part_at block from) → n ≤ length line'
    held n e = omega (arith, next-length, kept-within line kept (part_at block from) h)

    pub begun-within : (end n : ℕ) → Begun end n ≡ next_of line kept block from → (from ≤ end) × (end < length block) × (n ≤ length line')
    begun-within end n e = let p = begun_is end n e in (omega (arith, p.0, end-above block from), omega (arith, p.0, p.1), held n p.2)

    pub unfinished-within : (n : ℕ) → Unfinished n ≡ next_of line kept block from → n ≤ length line'
    unfinished-within n e = held n (unfinished_is n e).1

    -- not in the block alone: what is kept is the front of the line
    kept-is : (n : ℕ) → in_block kept block from ≡ false → n ≡ kept_number line kept (part_at block from) → take n line' ≡ take (length line) (take kept line ++ part_at block from)
    unfolding line_after
    kept-is n k e =
        let g : line' ≡ kept_in line kept (part_at block from) = f ∙ sym (pick-false _ _ k) in
        ap₂ take e g ∙ kept-front line kept (part_at block from) h

    module _ (i : from < length block) {room most : ℕ} {reply : List ℕ → List ℕ} (b : Bounded room most reply) (wide : room ≤ length line) where
      -- the reply to what was found is the reply to the line
      pub here-reply : (end : ℕ) → Here end ≡ next_of line kept block from → reply (take (end - from) (drop from block)) ≡ reply (take kept line ++ part_at block from)
      here-reply end e =
          let p = here_is end e in
          ap reply (ap₂ (λ (k j : ℕ). take k line ++ take (j - from) (drop from block)) (sym p.2) p.0)

      pub begun-reply : (end n : ℕ) → Begun end n ≡ next_of line kept block from → reply (take n line') ≡ reply (take kept line ++ part_at block from)
      begun-reply end n e =
          let p = begun_is end n e in
          ap reply (kept-is n p.3 p.2) ∙ (bounded-more b (length line) wide).front (take kept line ++ part_at block from)

      -- a line that goes on: nothing is put out
      pub next-goes : (n : ℕ) → Unfinished n ≡ next_of line kept block from → Steps reply (take kept line) (drop from block) [] (take n line') []
      next-goes n e =
          let p = unfinished_is n e in
          let over-end : length block ≤ line_end block from = p.0 in
          let d : List ℕ = drop from block in
          let m : length d ≡ length block - from = length-drop from block in
          let all : part_at block from ≡ d = take_all (line_end block from - from) d (omega arith) in
          let front : take (length line) (take n line') ≡ take (length line) (take kept line ++ d) =
          take_all (length line) (take n line') (omega (arith, length-take n line', held n p.1, next-length))
          ∙ kept-is n p.2 p.1
          ∙ ap (λ (l : List ℕ). take (length line) (take kept line ++ l)) all in
          record {
            same = λ later.
                output-part reply (take kept line) d later (omega (arith, end-splits))
                ∙ sym (same-output (bounded-more b (length line) wide) (take n line') (take kept line ++ d) later front);
          }

      -- a line that ends, at which it has the reply to what was found
      pub next-ends : (end : ℕ) (l : List ℕ) → end ≡ line_end block from → end < length block → reply l ≡ reply (take kept line ++ part_at block from)
          → Steps reply (take kept line) (drop from block) (reply l) [] (drop (end + 1) block)
      next-ends end l e t q =
          let d : List ℕ = drop from block in
          let n : length d ≡ length block - from = length-drop from block in
          let to : from + suc (up_to d) ≡ end + 1 = omega (arith, end-splits) in
          let up : up_to d ≡ line_end block from - from = omega (arith, end-splits) in
          let after : drop (suc (up_to d)) d ≡ drop (end + 1) block = drop-drop (suc (up_to d)) from block ∙ ap (λ (k : ℕ). drop k block) to in
          record {
            same = λ later.
                output-line reply (take kept line) d later (omega (arith, end-splits))
                ∙ ap₂ (λ (k : ℕ) (x : List ℕ). reply (take kept line ++ take k d) ++ output_from reply [] (x ++ later)) up after
                ∙ ap (λ (x : List ℕ). x ++ output_from reply [] (drop (end + 1) block ++ later)) (sym q);
          }

-- What a step has done: nothing, a line more, and the ways out, where the output is full, where no line ends in what is left, and where nothing is left.
module _ (reply : List ℕ → List ℕ) (most : ℕ) (line₀ : List ℕ) (kept : ℕ) (block : List ℕ) (from : ℕ) (out₀ : List ℕ) where
  pub stepping-none : kept ≤ length line₀ → Stepping reply line₀ kept block from out₀ line₀ kept out₀ 0 from
  stepping-none h =
      record { done = record { same = λ later. refl }; held = h; fits = omega arith; since = omega arith; first = λ e. refl; room = refl; size = refl }

  module _ (line : List ℕ) (len : ℕ) (out : List ℕ) (waiting at : ℕ) (g : Stepping reply line₀ kept block from out₀ line len out waiting at) where
    pub stepped-end : length block ≤ at → Stepped reply most line₀ kept block from line out (record { from = at; kept = len; waiting = waiting })
    stepped-end h = record { done = g.done; held = g.held; fits = g.fits; onward = λ a b. omega arith }

    pub stepped-full : length out - waiting < most → Stepped reply most line₀ kept block from line out (record { from = at; kept = len; waiting = waiting })
    stepped-full h =
        record {
          done = g.done;
          held = g.held;
          fits = g.fits;
          onward = λ a b. pick-case (λ (x : ℕ). from < at) (ltb from at) 0 0 (λ t. ltb-true _ _ t) (λ t. absurd (omega (arith, g.first (ltb-false _ _ t))));
        }

    module _ {room : ℕ} (b : Bounded room most reply) (wide : room ≤ length line₀) (i : at < length block) (line' : List ℕ) (f : line' ≡ line_after line len block at) where
      -- the line that has ended was answered
      line-more : (end : ℕ) (l : List ℕ) → end ≡ line_end block at → end < length block → reply l ≡ reply (take len line ++ part_at block at)
          → most ≤ length out - waiting → (out' : List ℕ) (waiting' : ℕ) → length out' ≡ length out
          → Replied reply l out waiting out' waiting'
          → Stepping reply line₀ kept block from out₀ line' 0 out' waiting' (end + 1)
      line-more end l e t q free out' waiting' size a =
          let p : List ℕ = reply l in
          let bound : length p ≤ most = b.short l in
          let fits : waiting ≤ length out = g.fits in
          let s : Steps reply (take len line) (drop at block) p [] (drop (end + 1) block) =
          next-ends line len block at g.held line' f i b (omega (arith, g.room)) end l e t q in
          let written : take waiting' out' ≡ take waiting out ++ p = ap₂ take a.place a.here ∙ over-up-to out p waiting (omega arith) in
          let start : at ≤ end = omega (arith, end-above block at) in
          record {
            done = record {
              same = λ later.
                  g.done.same later
                  ∙ ap (λ (l : List ℕ). take waiting out ++ l) (s.same later)
                  ∙ sym (append_assoc (take waiting out) p (output_from reply [] (drop (end + 1) block ++ later)))
                  ∙ ap (λ (l : List ℕ). l ++ output_from reply [] (drop (end + 1) block ++ later)) (sym written);
            };
            held = omega arith;
            fits = omega (arith, a.place);
            since = omega (arith, g.since);
            first = λ q. absurd (omega (arith, g.since));
            room = next-length line len block at g.held line' f ∙ g.room;
            size = size ∙ g.size;
          }

      -- in the block, or from the line buffer
      module _ (free : most ≤ length out - waiting) (out' : List ℕ) (waiting' : ℕ) (same : length out' ≡ length out) where
        pub stepping-here : (end : ℕ) → Here end ≡ next_of line len block at → Replied reply (take (end - at) (drop at block)) out waiting out' waiting'
            → Stepping reply line₀ kept block from out₀ line' 0 out' waiting' (end + 1)
        stepping-here end e a =
            line-more end _ (here_is line len block at end e).0 (here-within line len block at end e).1
            (here-reply line len block at g.held line' f i b (omega (arith, g.room)) end e) free out' waiting' same a

        pub stepping-begun : (end n : ℕ) → Begun end n ≡ next_of line len block at → Replied reply (take n line') out waiting out' waiting'
            → Stepping reply line₀ kept block from out₀ line' 0 out' waiting' (end + 1)
        stepping-begun end n e a =
            line-more end _ (begun_is line len block at end n e).0 (begun-within line len block at g.held line' f end n e).1
            (begun-reply line len block at g.held line' f i b (omega (arith, g.room)) end n e) free out' waiting' same a

      -- what is left of the block was kept
      pub stepped-keep : (n : ℕ) → Unfinished n ≡ next_of line len block at → (last : ℕ) → last ≡ length block
          → Stepped reply most line₀ kept block from line' out (record { from = last; kept = n; waiting = waiting })
      stepped-keep n e last z =
          let s : Steps reply (take len line) (drop at block) [] (take n line') [] =
          next-goes line len block at g.held line' f i b (omega (arith, g.room)) n e in
          let none : drop last block ≡ [] = drop_of_length-le block {i = last} (omega arith) in
          record {
            done = record {
              same = λ later.
                  g.done.same later
                  ∙ ap (λ (l : List ℕ). take waiting out ++ l) (s.same later)
                  ∙ ap (λ (l : List ℕ). take waiting out ++ output_from reply (take n line') (l ++ later)) (sym none);
            };
            held = unfinished-within line len block at g.held line' f n e;
            fits = g.fits;
            onward = λ a c. omega (arith, g.since);
          }

-- a reply that was written into a lent part of the output
pub replied-lent : (reply : List ℕ → List ℕ) (l out : List ℕ) (at m : ℕ) (ys out' : List ℕ) (n : ℕ) → m ≡ length out - at
    → n ≡ length (reply l) → ys ≡ over (take m (drop at out)) 0 (reply l) → out' ≡ take at out ++ (ys ++ drop m (drop at out))
    → Replied reply l out at out' (at + n)
unfolding over
replied-lent reply l out at m ys out' n q e f o =
    let p : List ℕ = reply l in
    let d : List ℕ = drop at out in
    let k : length d ≡ length out - at = length-drop at out in
    let all : take m d ≡ d = take_all m d (omega arith) in
    let whole : ys ≡ p ++ drop (length p) d = f ∙ ap (λ (x : List ℕ). p ++ drop (length p) x) all in
    let none : drop m d ≡ [] = drop_of_length-le d {i = m} (omega arith) in
    record {
      place = ap (λ (i : ℕ). at + i) e;
      here = o ∙ ap (λ (x : List ℕ). take at out ++ (ys ++ x)) none ∙ ap (λ (x : List ℕ). take at out ++ x) (append-nil ys ∙ whole);
    }

-- the end of input
module _ (reply : List ℕ → List ℕ) (line : List ℕ) (kept : ℕ) where
  pub last_none : kept ≡ 0 → [] ≡ last_reply reply (take kept line)
  unfolding last_reply
  last_none e = rw e

  pub last_some : (out out' : List ℕ) (m n : ℕ) → (kept ≡ 0 → ⊥) → kept ≤ length line → m ≡ kept → length (reply (take m line)) ≤ length out
      → Replied reply (take m line) out 0 out' n → take n out' ≡ last_reply reply (take kept line)
  unfolding last_reply
  last_some out out' m n z h q room a =
      let p : List ℕ = reply (take m line) in
      let k : length (take kept line) ≡ kept = length-take-le kept line h in
      ap₂ take a.place a.here ∙ over-up-to out p 0 (omega arith)
      ∙ ap (λ (i : ℕ). reply (take i line)) q
      ∙ rw (ne_eqb (length (take kept line)) 0 (λ w. z (omega arith)))
