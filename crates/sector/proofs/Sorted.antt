-- Laws of numbers sorted, the greatest first: the first is the greatest, the next the second. Assumes nothing.
use Rattle.std.proofs.Common.{◌≡◌, ℕ, zero, suc, ◌+◌, ◌<◌, ◌≤◌, min, max, Bool, true, false, leb, List, [], ◌∷◌, get_or, sym, refl, ap, ◌∙◌, subst, zero-le, add-one, arith, leb-false, leb-true}
use native.Mathlib.Decide.{dec_lt}
use Rattle.lists.specs.Cases.{pick}
use Rattle.lists.specs.Counts.{count, greatest}
use Rattle.lists.specs.Pieces.{each, fold}
use Rattle.lists.specs.Sorting.{insert}
use Rattle.lists.proofs.Sorting.{insert-count}
use Rattle.lists.proofs.Count.{count_none}
use Rattle.lists.proofs.Each.{each_none}
use Rattle.lists.proofs.Fold.{fold-each}
use Rattle.lists.proofs.Least.{Leader, leader-as}
use Rattle.sector.specs.Fit.{top_place, second}
use Rattle.sector.specs.Sorted.{not_less, insert_down, sorted_down}
use Rattle.sector.proofs.Leads.{Leads, leads-none, leads-up, leads-stay, leads-as, leads-most, leads-place, leads-next, leader-within, leader-here}

abbrev first : List ℕ → ℕ
first l = get_or l 0 0

abbrev next : List ℕ → ℕ
next l = get_or l 1 0

insert-first : (x : ℕ) (l : List ℕ) → first (insert not_less x l) ≡ max x (first l)
unfolding insert
insert-first x [] = omega arith
insert-first x (y ∷ l) = go (leb y x) refl
  where
    go : (b : Bool) → leb y x ≡ b → get_or (pick b (x ∷ y ∷ l) (y ∷ insert not_less x l)) 0 0 ≡ max x y
    go true e = omega (arith, leb-true y x e)
    go false e = omega (arith, leb-false y x e)

insert-next : (x : ℕ) (l : List ℕ) → next l ≤ first l → next (insert not_less x l) ≡ max (min x (first l)) (next l)
unfolding insert
insert-next x [] h = omega arith
insert-next x (y ∷ l) h = go (leb y x) refl
  where
    go : (b : Bool) → leb y x ≡ b → get_or (pick b (x ∷ y ∷ l) (y ∷ insert not_less x l)) 1 0 ≡ max (min x y) (get_or l 0 0)
    go true e = omega (arith, leb-true y x e)
    go false e = omega (arith, leb-false y x e, insert-first x l)

-- it is a sort: every number stays as often as it was, and none is less than the next
fold-count : (v : ℕ) (s l : List ℕ) → count v (fold insert_down s l) ≡ count v s + count v l
unfolding count fold
fold-count v s [] = omega arith
fold-count v s (x ∷ l) = fold-count v (insert not_less x s) l ∙ omega (arith, insert-count not_less v x s)

pub sorted-count : (v : ℕ) (l : List ℕ) → count v (sorted_down l) ≡ count v l
unfolding sorted_down
sorted-count v l = fold-count v [] l ∙ omega (arith, count_none v)

pub record Falls (l : List ℕ) : Type 0 where
  pub at : (i : ℕ) → get_or l (suc i) 0 ≤ get_or l i 0

insert-falls : (x : ℕ) (l : List ℕ) → Falls l → Falls (insert not_less x l)
unfolding insert
insert-falls x [] f = record { at = λ i. last i }
  where
    last : (i : ℕ) → get_or (x ∷ []) (suc i) 0 ≤ get_or (x ∷ []) i 0
    last zero = zero-le
    last (suc i) = zero-le
insert-falls x (y ∷ l) f = go (leb y x) refl (insert-falls x l (record { at = λ i. f.at (suc i) }))
  where
    here : Falls (insert not_less x l) → x < y → (i : ℕ) → get_or (y ∷ insert not_less x l) (suc i) 0 ≤ get_or (y ∷ insert not_less x l) i 0
    here g h zero = omega (arith, insert-first x l, f.at 0)
    here g h (suc i) = g.at i

    there : y ≤ x → (i : ℕ) → get_or (x ∷ y ∷ l) (suc i) 0 ≤ get_or (x ∷ y ∷ l) i 0
    there h zero = h
    there h (suc i) = f.at i

    go : (b : Bool) → leb y x ≡ b → Falls (insert not_less x l) → Falls (pick b (x ∷ y ∷ l) (y ∷ insert not_less x l))
    go true e g = record { at = there (leb-true y x e) }
    go false e g = record { at = here g (leb-false y x e) }

fold-falls : (s l : List ℕ) → Falls s → Falls (fold insert_down s l)
unfolding fold
fold-falls s [] f = f
fold-falls s (x ∷ l) f = fold-falls (insert not_less x s) l (insert-falls x s f)

pub sorted-falls : (l : List ℕ) → Falls (sorted_down l)
unfolding sorted_down
sorted-falls l = fold-falls [] l (record { at = λ i. zero-le })

-- the numbers f 0, .., f (n - 1), sorted
module _ (f : ℕ → ℕ) where
  sorted : ℕ → List ℕ
  sorted n = sorted_down (each f n)

  sorted_none : sorted 0 ≡ []
  unfolding sorted sorted_down fold
  sorted_none = ap (fold insert_down []) (each_none f)

  sorted_more : (n : ℕ) → sorted (n + 1) ≡ insert not_less (f n) (sorted n)
  unfolding sorted sorted_down
  sorted_more n = fold-each insert_down [] f n

  falls : (n : ℕ) → next (sorted n) ≤ first (sorted n)
  unfolding sorted
  falls n = (sorted-falls (each f n)).at 0

  -- what leads is the first, what comes second is the next
  record Ranked (n : ℕ) : Type 0 where
    place : ℕ
    leads : Leads f n place (first (sorted n)) (next (sorted n))

  ranked : (n : ℕ) → Ranked n
  ranked zero =
      let a : first (sorted 0) ≡ 0 = ap first sorted_none in
      let b : next (sorted 0) ≡ 0 = ap next sorted_none in
      record { place = 0; leads = leads-as f 0 refl a b (leads-none f) }
  ranked (suc n) = go (ranked n) (dec_lt (first (sorted n)) (f n))
    where
      step : (place : ℕ) → Leads f (n + 1) place (max (f n) (first (sorted n))) (max (min (f n) (first (sorted n))) (next (sorted n))) → Ranked (suc n)
      step place l =
          let e : sorted (suc n) ≡ insert not_less (f n) (sorted n) = ap sorted (sym (add-one n)) ∙ sorted_more n in
          let a : first (sorted (suc n)) ≡ max (f n) (first (sorted n)) = ap first e ∙ insert-first (f n) (sorted n) in
          let b : next (sorted (suc n)) ≡ max (min (f n) (first (sorted n))) (next (sorted n)) = ap next e ∙ insert-next (f n) (sorted n) (falls n) in
          record {
            place = place;
            leads = subst (λ (m : ℕ). Leads f m place (first (sorted (suc n))) (next (sorted (suc n)))) (add-one n) (leads-as f (n + 1) refl a b l);
          }

      go : Ranked n → Dec (first (sorted n) < f n) → Ranked (suc n)
      go r (yes h) =
          step n (leads-as f (n + 1) refl (omega arith) (omega (arith, falls n)) (leads-up f n r.place (first (sorted n)) (next (sorted n)) r.leads h))
      go r (no h) =
          step r.place
          (leads-as f (n + 1) refl (omega arith) refl
          (leads-stay f n r.place (first (sorted n)) (next (sorted n)) r.leads (max (min (f n) (first (sorted n))) (next (sorted n))) (omega arith) (omega (arith, falls n))))

  -- THE MEANING of the greatest and the second, of any n numbers
  pub sorted-first : (n : ℕ) → get_or (sorted_down (each f n)) 0 0 ≡ greatest f n
  unfolding sorted
  sorted-first n = leads-most f n (ranked n).place _ _ (ranked n).leads

  pub sorted-next : (n : ℕ) → 0 < n → get_or (sorted_down (each f n)) 1 0 ≡ second f n
  unfolding sorted
  sorted-next n h = leads-next f n (ranked n).place _ _ (ranked n).leads h

  -- and of the place: no number is greater than the one there, and every one before it is less
  module _ (n : ℕ) (h : 0 < n) where
    lead : Leader f n (top_place f n) (greatest f n)
    lead =
        let r : Ranked n = ranked n in
        leader-as f n (sym (leads-place f n r.place _ _ r.leads h)) (sym (leads-most f n r.place _ _ r.leads)) r.leads.lead

    pub top_within : top_place f n < n
    top_within = leader-within f n (top_place f n) (greatest f n) lead h

    pub top-here : f (top_place f n) ≡ greatest f n
    top-here = leader-here f n (top_place f n) (greatest f n) lead h

    pub top-first : (k : ℕ) → k < top_place f n → f k < greatest f n
    top-first k q = lead.first k q
