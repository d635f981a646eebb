-- Laws of bytes that are copied one after the other over all of a buffer, of a part that was lent, and is written, and of zeros in one. Assumes nothing.
use Prim.Native.Nat.{ℕ, ◌+◌, ◌≤◌, ◌<◌}
use mathlib.Core.Path.{◌≡◌, refl, sym, ap, ap₂, ◌∙◌}
use mathlib.Core.List.{List, ◌++◌}
use borrow.Author.Tests.{eq-eqb, ne_eqb}
use native.Mathlib.Omega.{arith}
use lib.ListN.{length, take, drop, get_or, set, replicate, length-drop, length-replicate}
use lib.Seq.{take_all, length-take-le}
use Rattle.lists.specs.Pieces.{over}
use Rattle.lists.proofs.Over.{over-then}
use Rattle.lists.proofs.Filled.{write-more, take_more}
use Rattle.numbers.specs.Writes.{copied, Wrote}
use Rattle.numbers.proofs.Stored.{wrote-not, wrote-over}

module _ (ys l : List ℕ) where
  -- other lengths; one byte more; all bytes
  pub copied-not : (length ys ≡ length l → ⊥) → l ≡ copied ys l
  unfolding copied
  copied-not h = rw (ne_eqb (length ys) (length l) h)

  pub copied-same : length ys ≡ length l → copied ys l ≡ ys
  unfolding copied
  copied-same e = rw (eq-eqb (length ys) (length l) e)

  pub copied_more : (i : ℕ) → take i l ≡ take i ys → i < length l → i < length ys → take (i + 1) (set l i (get_or ys i 0)) ≡ take (i + 1) ys
  copied_more i e h k =
      write-more l (take i ys) i (get_or ys i 0) h e ∙ take_more ys 0 i k

  pub copied_all : (out : List ℕ) (i : ℕ) → length ys ≡ length l → length out ≡ length l → take i out ≡ take i ys → length ys ≤ i → out ≡ copied ys l
  copied_all out i e n s h =
      sym (take_all i out (omega arith)) ∙ s ∙ take_all i ys h ∙ sym (copied-same e)

  -- a part that was lent, and copied to
  pub copied-part :
      (a k m : ℕ)
      → a + length ys ≤ length l
      → m ≡ length ys
      → k ≡ length ys
      → take a l ++ (copied ys (take m (drop a l)) ++ drop k (drop a l)) ≡ over l a ys
  unfolding over copied
  copied-part a k m h e f =
      let n : length (take m (drop a l)) ≡ length ys = length-take-le m (drop a l) (omega (arith, length-drop a l)) ∙ e in
      rw (eq-eqb (length ys) (length (take m (drop a l))) (sym n), f)

-- a part that holds ys now
pub over-part : (l ys zs : List ℕ) (a k : ℕ) → zs ≡ ys → k ≡ length ys → take a l ++ (zs ++ drop k (drop a l)) ≡ over l a ys
unfolding over
over-part l ys zs a k e f = ap₂ (λ (u : List ℕ) (n : ℕ). take a l ++ (u ++ drop n (drop a l))) e f

-- xs, and then ys in a second part behind the first
pub over-parts :
    (l xs ys : List ℕ) (a b j k : ℕ)
    → j ≡ length xs
    → k ≡ length ys
    → b ≡ a + length xs
    → b + length ys ≤ length l
    → take b (take a l ++ (xs ++ drop j (drop a l))) ++ (ys ++ drop k (drop b (take a l ++ (xs ++ drop j (drop a l))))) ≡ over l a (xs ++ ys)
over-parts l xs ys a b j k e f g h =
    over-part (take a l ++ (xs ++ drop j (drop a l))) ys ys b k refl f
    ∙ ap (λ (o : List ℕ). over o b ys) (over-part l xs xs a j refl e)
    ∙ over-then l a xs ys b g h

-- zeros at a place
module _ (l : List ℕ) (a n : ℕ) where
  abbrev zeros : List ℕ
  zeros = replicate n 0

  many : length zeros ≡ n
  many = length-replicate {A = ℕ} n 0

  pub zeros-short : length l < a + n → Wrote l a zeros l a
  zeros-short h = wrote-not (omega (arith, many))

  -- a part that was lent, and filled
  pub zeros-part :
      (k m : ℕ)
      → a + n ≤ length l
      → m ≡ n
      → k ≡ n
      → take a l ++ (replicate (length (take m (drop a l))) 0 ++ drop k (drop a l)) ≡ over l a zeros
  zeros-part k m h e f =
      let size : length (take m (drop a l)) ≡ n = length-take-le m (drop a l) (omega (arith, length-drop a l)) ∙ e in
      over-part l zeros (replicate (length (take m (drop a l))) 0) a k (ap (λ (x : ℕ). replicate x 0) size) (f ∙ sym many)

  pub zeros-all : {after : List ℕ} {next : ℕ} → a + n ≤ length l → after ≡ over l a zeros → next ≡ a + n → Wrote l a zeros after next
  zeros-all h e place = wrote-over (omega (arith, many)) e (omega (arith, many))
