-- Laws of a buffer that a loop fills, place after place. Assumes nothing.
use Prim.Native.Nat.{ℕ, ◌+◌, ◌-◌, ◌≤◌, ◌<◌, zero-le}
use mathlib.Core.Path.{◌≡◌, sym, ap, ap₂, ◌∙◌}
use mathlib.Core.List.{List, [], ◌∷◌, ◌++◌, append-nil}
use native.Mathlib.Numerals.{add-one}
use native.Mathlib.Omega.{arith}
use lib.ListN.{length, get_or, set, take, drop, length-set, length-drop, drop_of_length-le}
use lib.Seq.{take-suc, take-suc-set, take_all, take_at, length-take-le}
use Rattle.lists.specs.Pieces.{each, over}
use Rattle.lists.proofs.Each.{each_none, each-length, each_more}
use Rattle.lists.proofs.Over.{over_none, over-push}

-- ---- the first i places hold what they should

module _ {A : Type 0} (out : List A) where
  pub write-more : (front : List A) (i : ℕ) (x : A) → i < length out → take i out ≡ front → take (i + 1) (set out i x) ≡ front ++ (x ∷ [])
  write-more front i x h e = ap (λ (n : ℕ). take n (set out i x)) (add-one i) ∙ take-suc-set out i x h ∙ ap (λ (l : List A). l ++ (x ∷ [])) e

  pub write-all : (ys : List A) (i : ℕ) → length out ≤ i → take i out ≡ ys → out ≡ ys
  write-all ys i h e = sym (take_all i out h) ∙ e

pub take_more : {A : Type 0} (l : List A) (d : A) (i : ℕ) → i < length l → take i l ++ (get_or l i d ∷ []) ≡ take (i + 1) l
take_more l d i h = sym (ap (λ (n : ℕ). take n l) (add-one i) ∙ take-suc l i d h)

-- ---- a table that is filled with f 0, f 1 and so on: the first i places hold them

pub record Filled {A : Type 0} (f : ℕ → A) (n i : ℕ) (table : List A) : Type 0 where
  pub within : i ≤ n
  pub room : length table ≡ n
  pub front : take i table ≡ each f i

module _ {A : Type 0} (f : ℕ → A) (n : ℕ) (table : List A) where
  pub filled_none : length table ≡ n → Filled f n 0 table
  filled_none h = record { within = zero-le; room = h; front = sym (each_none f) }

  pub filled_more : (i : ℕ) (x : A) → Filled f n i table → i < n → x ≡ f i → Filled f n (i + 1) (set table i x)
  filled_more i x t h e =
      record {
        within = omega arith;
        room = length-set table i x ∙ t.room;
        front =
            write-more table (each f i) i x (omega (arith, t.room)) t.front
            ∙ ap (λ (y : A). each f i ++ (y ∷ [])) e
            ∙ sym (each_more f i);
      }

  pub filled-all : (i : ℕ) → Filled f n i table → n ≤ i → table ≡ each f n
  filled-all i t h =
      let e : i ≡ n = omega (arith, t.within) in
      write-all table (each f i) i (omega (arith, t.room)) t.front ∙ ap (each f) e

-- ---- a list put at a place, element after element

module _ {A : Type 0} (l src : List A) (a : ℕ) where
  pub fill_none : l ≡ over l a (take 0 src)
  fill_none = sym (over_none l a)

  pub fill_more : (d : A) (i : ℕ) → a + i < length l → i < length src → set (over l a (take i src)) (a + i) (get_or src i d) ≡ over l a (take (i + 1) src)
  fill_more d i h k =
      let n : length (take i src) ≡ i = length-take-le i src (omega arith) in
      over-push l a (take i src) (a + i) (get_or src i d) (omega arith) h ∙ ap (over l a) (take_more src d i k)

  pub fill-all : (i : ℕ) → length src ≤ i → over l a (take i src) ≡ over l a src
  fill-all i h = ap (over l a) (take_all i src h)

-- from the front on
pub front-more : {A : Type 0} (l src : List A) (d : A) (i : ℕ) → i < length l → i < length src → set (over l 0 (take i src)) i (get_or src i d) ≡ over l 0 (take (i + 1) src)
front-more l src d i h k =
    let e : 0 + i ≡ i = omega arith in
    ap (λ (n : ℕ). set (over l 0 (take i src)) n (get_or src i d)) (sym e) ∙ fill_more l src 0 d i (omega arith) k

-- f 0, f 1 and so on, from the front on
pub each-put : (f : ℕ → ℕ) (l : List ℕ) (i x : ℕ) → i < length l → x ≡ f i → set (over l 0 (each f i)) i x ≡ over l 0 (each f (i + 1))
each-put f l i x h e =
    over-push l 0 (each f i) i x (omega (arith, each-length f i)) h
    ∙ ap (over l 0) (ap (λ (v : ℕ). each f i ++ (v ∷ [])) e ∙ sym (each_more f i))

pub each_start : (f : ℕ → ℕ) (l : List ℕ) → l ≡ over l 0 (each f 0)
unfolding each
each_start f l = sym (over_none l 0)

-- ---- two lists that take up all of a buffer

pub put_both :
    {A : Type 0} (ys zs rest : List A) (n : ℕ)
    → length ys ≡ n
    → take n (ys ++ rest) ++ (zs ++ drop (length (ys ++ rest) - n) (drop n (ys ++ rest))) ≡ ys ++ zs
put_both ys zs rest n e =
    ap₂ (λ (u v : List _). u ++ (zs ++ v)) (take_at ys rest n e)
    (drop_of_length-le (drop n (ys ++ rest)) {i = length (ys ++ rest) - n} (omega (arith, length-drop n (ys ++ rest))))
    ∙ ap (λ (v : List _). ys ++ v) (append-nil zs)

-- a part to the end
pub part_to_end : {A : Type 0} (l : List A) (n : ℕ) → take (length l - n) (drop n l) ≡ drop n l
part_to_end l n = take_all (length l - n) (drop n l) (omega (arith, length-drop n l))
