-- The highest of a group of candidates: it comes before every other member. Assumes nothing.
use Prim.Native.Nat.{ℕ, zero, suc, ◌≤◌, ◌<◌}
use mathlib.Core.Path.{◌≡◌, refl, sym, ap, ◌∙◌, subst}
use mathlib.Core.Bool.{Bool, true, false}
use mathlib.Core.List.{[], ◌∷◌, ◌++◌, append-nil}
use native.Mathlib.Decide.{ℕ_discrete}
use native.Mathlib.Nat.{not-suc-le-zero}
use native.Mathlib.Omega.{arith}
use borrow.Author.Tests.{eq-eqb, ne_eqb, lt-ltb, le-ltb, ltb-true, ltb-false}
use lib.Dec.{ltb}
use Rattle.lists.specs.Cases.{pick, flag}
use Rattle.lists.specs.Counts.{how_many}
use Rattle.lists.specs.Pieces.{among, fold}
use Rattle.lists.proofs.Fold.{fold-last}
use Rattle.lists.proofs.Picks.{never_both}
use Rattle.votes.specs.Votes.{blank_candidate}
use Rattle.votes.specs.declared.Candidate.{Candidate}
use Rattle.groups.specs.Groups.{above, outranks, higher, highest_of}
use Rattle.meanings.proofs.Passing.{First, first_passes}

-- ---- the order of two numbers, and then of what comes behind

above_same : (x y : ℕ) (rest : Bool) → x ≡ y → above x y rest ≡ rest
above_same x y rest e = ap (λ (b : Bool). pick b rest (ltb y x)) (eq-eqb x y e)

above_more : (x y : ℕ) (rest : Bool) → y < x → above x y rest ≡ true
above_more x y rest h = ap (λ (b : Bool). pick b rest (ltb y x)) (ne_eqb x y (λ e. omega arith)) ∙ lt-ltb y x h

above-less : (x y : ℕ) (rest : Bool) → x < y → above x y rest ≡ false
above-less x y rest h = ap (λ (b : Bool). pick b rest (ltb y x)) (ne_eqb x y (λ e. omega arith)) ∙ le-ltb y x (omega arith)

-- three ways for two numbers
order : (P : Type 0) (x y : ℕ) → (y < x → P) → (x ≡ y → P) → (x < y → P) → P
order P x y more same less = go (ℕ_discrete x y)
  where
    two : (x ≡ y → ⊥) → (b : Bool) → ltb y x ≡ b → P
    two ne true e = more (ltb-true y x e)
    two ne false e = let h : x < y = omega (arith, ltb-false y x e, ne) in less h

    go : Dec (x ≡ y) → P
    go (yes e) = same e
    go (no ne) = two ne (ltb y x) refl

pub above_most : (x y : ℕ) (rest : Bool) → above x y rest ≡ true → y ≤ x
above_most x y rest e =
    order (y ≤ x) x y (λ h. omega arith) (λ h. omega arith) (λ h. absurd (never_both (above-less x y rest h) e))

above-trans :
    (x y z : ℕ) (p q r : Bool) → (p ≡ true → q ≡ true → r ≡ true) → above x y p ≡ true → above y z q ≡ true → above x z r ≡ true
above-trans x y z p q r f a b =
    order (above x z r ≡ true) x y
    (λ h.
    order (above x z r ≡ true) y z (λ k. above_more x z r (omega arith)) (λ k. above_more x z r (omega arith))
    (λ k. absurd (never_both (above-less y z q k) b)))
    (λ h.
    order (above x z r ≡ true) y z (λ k. above_more x z r (omega arith))
    (λ k. above_same x z r (h ∙ k) ∙ f (sym (above_same x y p h) ∙ a) (sym (above_same y z q k) ∙ b))
    (λ k. absurd (never_both (above-less y z q k) b)))
    (λ h. absurd (never_both (above-less x y p h) a))

above-total : (x y : ℕ) (p q : Bool) → (p ≡ false → q ≡ true) → above x y p ≡ false → above y x q ≡ true
above-total x y p q f a =
    order (above y x q ≡ true) x y (λ h. absurd (never_both a (above_more x y p h)))
    (λ h. above_same y x q (sym h) ∙ f (sym (above_same x y p h) ∙ a))
    (λ h. above_more y x q h)

-- ---- the order of candidates

less-trans : (x y z : ℕ) → ltb x y ≡ true → ltb y z ≡ true → ltb x z ≡ true
less-trans x y z a b = lt-ltb x z (omega (arith, ltb-true x y a, ltb-true y z b))

less-total : (x y : ℕ) → (x ≡ y → ⊥) → ltb x y ≡ false → ltb y x ≡ true
less-total x y ne a = lt-ltb y x (omega (arith, ltb-false x y a, ne))

outranks-trans : (a b c : Candidate) → outranks a b ≡ true → outranks b c ≡ true → outranks a c ≡ true
unfolding outranks
outranks-trans a b c =
    above-trans a.votes b.votes c.votes _ _ _
    (above-trans (flag a.verified) (flag b.verified) (flag c.verified) _ _ _
    (above-trans (flag a.anchored) (flag b.anchored) (flag c.anchored) _ _ _
    (above-trans a.zeros b.zeros c.zeros _ _ _ (less-trans a.bv b.bv c.bv))))

outranks-total : (a b : Candidate) → (a.bv ≡ b.bv → ⊥) → outranks a b ≡ false → outranks b a ≡ true
unfolding outranks
outranks-total a b ne =
    above-total a.votes b.votes _ _
    (above-total (flag a.verified) (flag b.verified) _ _
    (above-total (flag a.anchored) (flag b.anchored) _ _
    (above-total a.zeros b.zeros _ _ (less-total a.bv b.bv ne))))

-- ---- the highest of those that pass a test

module _ (f : ℕ → Candidate) (named : (v : ℕ) → (f v).bv ≡ v) (p : ℕ → Bool) where
  apart : (v w : ℕ) → (v ≡ w → ⊥) → (f v).bv ≡ (f w).bv → ⊥
  apart v w ne e = ne (sym (named v) ∙ e ∙ named w)

  -- after those below n, beginning with k
  pub record Leads (k n : ℕ) (best : Candidate) : Type 0 where
    pub at : ℕ
    pub is : best ≡ f at
    pub passes : p at ≡ true
    pub small : at < 256
    pub first : (k ≡ at → ⊥) → outranks (f at) (f k) ≡ true
    pub rest : (w : ℕ) → w < n → p w ≡ true → (w ≡ at → ⊥) → outranks (f at) (f w) ≡ true

  module _ (k n : ℕ) (best : Candidate) (l : Leads k n best) where
    leads-no : p n ≡ false → Leads k (suc n) best
    leads-no e =
        record {
          at = l.at;
          is = l.is;
          passes = l.passes;
          small = l.small;
          first = l.first;
          rest = λ w h t ne. l.rest w (not-it w h t (ℕ_discrete w n)) t ne;
        }
      where
        not-it : (w : ℕ) → w < suc n → p w ≡ true → Dec (w ≡ n) → w < n
        not-it w h t (yes q) = absurd (never_both e (ap p (sym q) ∙ t))
        not-it w h t (no q) = omega arith

    leads-new : p n ≡ true → n < 256 → outranks (f n) (f l.at) ≡ true → Leads k (suc n) (f n)
    leads-new e small o =
        record {
          at = n;
          is = refl;
          passes = e;
          small = small;
          first = λ ne. over k l.first (ℕ_discrete k l.at);
          rest = λ w h t ne. over w (λ d. l.rest w (omega arith) t d) (ℕ_discrete w l.at);
        }
      where
        over : (w : ℕ) → ((w ≡ l.at → ⊥) → outranks (f l.at) (f w) ≡ true) → Dec (w ≡ l.at) → outranks (f n) (f w) ≡ true
        over w g (yes q) = ap (λ (v : ℕ). outranks (f n) (f v)) q ∙ o
        over w g (no q) = outranks-trans (f n) (f l.at) (f w) o (g q)

    leads-old : outranks (f n) (f l.at) ≡ false → Leads k (suc n) best
    leads-old o =
        record {
          at = l.at;
          is = l.is;
          passes = l.passes;
          small = l.small;
          first = l.first;
          rest = λ w h t ne. more w h t ne (ℕ_discrete w n);
        }
      where
        more : (w : ℕ) → w < suc n → p w ≡ true → (w ≡ l.at → ⊥) → Dec (w ≡ n) → outranks (f l.at) (f w) ≡ true
        more w h t ne (yes q) =
            ap (λ (v : ℕ). outranks (f l.at) (f v)) q ∙ outranks-total (f n) (f l.at) (apart n l.at (λ d. ne (q ∙ d))) o
        more w h t ne (no q) = l.rest w (omega arith) t ne

    leads-higher : p n ≡ true → n < 256 → (b : Bool) → outranks (f n) (f l.at) ≡ b → Leads k (suc n) (pick b (f n) best)
    leads-higher e small true o = leads-new e small o
    leads-higher e small false o = leads-old o

    leads-kept :
        (b : Bool)
        → p n ≡ b
        → n < 256
        → best ≡ fold higher (f k) (among p f n)
        → Leads k (suc n) (fold higher (f k) (among p f n ++ pick b (f n ∷ []) []))
    unfolding higher
    leads-kept true e small q =
        let last : pick (outranks (f n) best) (f n) best ≡ fold higher (f k) (among p f n ++ (f n ∷ [])) =
        ap (λ (c : Candidate). higher c (f n)) q ∙ sym (fold-last higher (f k) (among p f n) (f n)) in
        subst (Leads k (suc n)) last (leads-higher e small (outranks (f n) best) (ap (outranks (f n)) (sym l.is)))
    leads-kept false e small q =
        subst (Leads k (suc n)) (q ∙ ap (fold higher (f k)) (sym (append-nil (among p f n)))) (leads-no e)

  module _ (k : ℕ) (passes : p k ≡ true) (small : k < 256) where
    leads-all : (n : ℕ) → n ≤ 256 → Leads k n (fold higher (f k) (among p f n))
    unfolding among fold
    leads-all zero h =
        record { at = k; is = refl; passes = passes; small = small; first = λ ne. absurd (ne refl); rest = λ w q t ne. absurd (not-suc-le-zero q) }
    leads-all (suc n) h = leads-kept k n (fold higher (f k) (among p f n)) (leads-all n (omega arith)) (p n) refl (omega arith) refl

  -- the highest, and that it comes before every other
  pub record Highest (best : Candidate) : Type 0 where
    pub at : ℕ
    pub is : best ≡ f at
    pub passes : p at ≡ true
    pub small : at < 256
    pub rest : (w : ℕ) → w < 256 → p w ≡ true → (w ≡ at → ⊥) → outranks (f at) (f w) ≡ true

  pub highest-passes : 0 < how_many p 256 → Highest (highest_of (among p f 256))
  unfolding highest_of
  highest-passes h =
      let r : First f p blank_candidate 256 = first_passes f p blank_candidate 256 h in
      let l : Leads r.at 256 (fold higher (f r.at) (among p f 256)) = leads-all r.at r.passes r.below 256 (omega arith) in
      record {
        at = l.at;
        is = ap (λ (c : Candidate). fold higher c (among p f 256)) r.first ∙ l.is;
        passes = l.passes;
        small = l.small;
        rest = l.rest;
      }
