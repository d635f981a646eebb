-- What is put out for an input, line after line. Assumes nothing.
use Prim.Native.Nat.{ℕ, zero, suc, ◌≤◌, ◌<◌, min}
use mathlib.Core.Path.{◌≡◌, refl, sym, ap, ◌∙◌}
use mathlib.Core.Bool.{Bool, true, false}
use mathlib.Core.List.{List, [], ◌∷◌, ◌++◌, append-nil, append_assoc, map}
use native.Mathlib.Nat.{not-suc-le-zero, le_of_suc-le-suc}
use native.Mathlib.Omega.{arith}
use borrow.Author.Tests.{ne_eqb}
use lib.Dec.{eqb}
use lib.ListN.{length, take, drop, length-take}
use lib.Seq.{take-take}
use Rattle.lists.specs.Cases.{pick}
use Rattle.lines.specs.Input.{lines_from, flat, output_from, up_to, last_reply, Bounded}

module _ (reply : List ℕ → List ℕ) where
  -- the end of input
  pub output-last : (k : List ℕ) → output_from reply k [] ≡ last_reply reply k
  unfolding output_from lines_from last_reply flat
  output-last k = go (eqb (length k) 0)
    where
      go : (b : Bool) → flat (map reply (pick b [] (k ∷ []))) ≡ pick b [] (reply k)
      go true = refl
      go false = append-nil (reply k)

  -- a character that ends a line, and one that does not
  output-ends : (k : List ℕ) (c : ℕ) (l : List ℕ) → eqb 10 c ≡ true → output_from reply k (c ∷ l) ≡ reply k ++ output_from reply [] l
  unfolding output_from lines_from flat
  output-ends k c l e = rw e

  output-goes : (k : List ℕ) (c : ℕ) (l : List ℕ) → eqb 10 c ≡ false → output_from reply k (c ∷ l) ≡ output_from reply (k ++ (c ∷ [])) l
  unfolding output_from lines_from flat
  output-goes k c l e = rw e

  -- the first line of what is in hand
  pub output-line : (k l later : List ℕ) → up_to l < length l
      → output_from reply k (l ++ later) ≡ reply (k ++ take (up_to l) l) ++ output_from reply [] (drop (suc (up_to l)) l ++ later)
  unfolding up_to
  output-line k [] later h = absurd (not-suc-le-zero h)
  output-line k (c ∷ l) later h = go (eqb 10 c) refl (λ m. output-line m l later) h
    where
      go : (b : Bool) → eqb 10 c ≡ b
          → ((m : List ℕ) → up_to l < length l → output_from reply m (l ++ later) ≡ reply (m ++ take (up_to l) l) ++ output_from reply [] (drop (suc (up_to l)) l ++ later))
          → pick b 0 (suc (up_to l)) < suc (length l)
          → output_from reply k (c ∷ (l ++ later)) ≡ reply (k ++ take (pick b 0 (suc (up_to l))) (c ∷ l)) ++ output_from reply [] (drop (suc (pick b 0 (suc (up_to l)))) (c ∷ l) ++ later)
      go true e ih g = output-ends k c (l ++ later) e ∙ ap (λ (x : List ℕ). reply x ++ output_from reply [] (l ++ later)) (sym (append-nil k))
      go false e ih g =
          output-goes k c (l ++ later) e
          ∙ ih (k ++ (c ∷ [])) (le_of_suc-le-suc g)
          ∙ ap (λ (x : List ℕ). reply x ++ output_from reply [] (drop (suc (up_to l)) l ++ later)) (append_assoc k (c ∷ []) (take (up_to l) l))

  -- a part with no newline
  pub output-part : (k l later : List ℕ) → length l ≤ up_to l → output_from reply k (l ++ later) ≡ output_from reply (k ++ l) later
  unfolding up_to
  output-part k [] later h = ap (λ (x : List ℕ). output_from reply x later) (sym (append-nil k))
  output-part k (c ∷ l) later h = go (eqb 10 c) refl (λ m. output-part m l later) h
    where
      go : (b : Bool) → eqb 10 c ≡ b
          → ((m : List ℕ) → length l ≤ up_to l → output_from reply m (l ++ later) ≡ output_from reply (m ++ l) later)
          → suc (length l) ≤ pick b 0 (suc (up_to l))
          → output_from reply k (c ∷ (l ++ later)) ≡ output_from reply (k ++ (c ∷ l)) later
      go true e ih g = absurd (not-suc-le-zero g)
      go false e ih g =
          output-goes k c (l ++ later) e
          ∙ ih (k ++ (c ∷ [])) (le_of_suc-le-suc g)
          ∙ ap (λ (x : List ℕ). output_from reply x later) (append_assoc k (c ∷ []) l)

-- what there is room for, of a list that goes on
take-front : (n : ℕ) (x z : List ℕ) → take n (take n x ++ z) ≡ take n (x ++ z)
take-front zero x z = refl
take-front (suc n) [] z = refl
take-front (suc n) (c ∷ x) z = ap (λ (l : List ℕ). c ∷ l) (take-front n x z)

-- what is kept of a line puts out what the line does
module _ {room most : ℕ} {reply : List ℕ → List ℕ} (b : Bounded room most reply) where
  pub bounded-more : (m : ℕ) → room ≤ m → Bounded m most reply
  bounded-more m h =
      record {
        some = omega (arith, b.some);
        front = λ l. sym (b.front (take m l)) ∙ ap reply (take-take room m l h) ∙ b.front l;
        short = b.short;
      }

  same-reply : (x y : List ℕ) → take room x ≡ take room y → reply x ≡ reply y
  same-reply x y e = sym (b.front x) ∙ ap reply e ∙ b.front y

  same-last : (x y : List ℕ) → take room x ≡ take room y → last_reply reply x ≡ last_reply reply y
  unfolding last_reply
  same-last x y e =
      let m : min room (length x) ≡ min room (length y) = sym (length-take room x) ∙ ap length e ∙ length-take room y in
      go x y (same-reply x y e) m
    where
      go : (x y : List ℕ) → reply x ≡ reply y → min room (length x) ≡ min room (length y)
          → pick (eqb (length x) 0) [] (reply x) ≡ pick (eqb (length y) 0) [] (reply y)
      go [] [] q m = refl
      go [] (c ∷ y) q m = absurd (omega (arith, b.some))
      go (c ∷ x) [] q m = absurd (omega (arith, b.some))
      go (c ∷ x) (d ∷ y) q m = rw (ne_eqb (suc (length x)) 0 (λ z. omega arith), ne_eqb (suc (length y)) 0 (λ z. omega arith)) q

  more : (x y z : List ℕ) → take room x ≡ take room y → take room (x ++ z) ≡ take room (y ++ z)
  more x y z e = sym (take-front room x z) ∙ ap (λ (v : List ℕ). take room (v ++ z)) e ∙ take-front room y z

  pub same-output : (x y input : List ℕ) → take room x ≡ take room y → output_from reply x input ≡ output_from reply y input
  same-output x y [] e = output-last reply x ∙ same-last x y e ∙ sym (output-last reply y)
  same-output x y (c ∷ l) e = go (eqb 10 c) refl (same-output (x ++ (c ∷ [])) (y ++ (c ∷ [])) l)
    where
      go : (t : Bool) → eqb 10 c ≡ t
          → (take room (x ++ (c ∷ [])) ≡ take room (y ++ (c ∷ [])) → output_from reply (x ++ (c ∷ [])) l ≡ output_from reply (y ++ (c ∷ [])) l)
          → output_from reply x (c ∷ l) ≡ output_from reply y (c ∷ l)
      go true t ih = output-ends reply x c l t ∙ ap (λ (v : List ℕ). v ++ output_from reply [] l) (same-reply x y e) ∙ sym (output-ends reply y c l t)
      go false t ih = output-goes reply x c l t ∙ ih (more x y (c ∷ []) e) ∙ sym (output-goes reply y c l t)
