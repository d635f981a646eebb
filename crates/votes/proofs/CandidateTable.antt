-- The table of candidates: one entry more, and what list it holds where there is room for all of it. Assumes nothing.
use Prim.Native.Nat.{◌+◌, ◌≤◌, ◌<◌, min}
use mathlib.Core.Path.{◌≡◌, refl, sym, ap, ap₂, ◌∙◌, subst}
use mathlib.Core.List.{List, [], ◌∷◌, ◌++◌, append_assoc, append-nil}
use native.Mathlib.Omega.{arith}
use lib.ListN.{length, get_or, set, length-append, length-set}
use lib.Seq.{get_or-set_same, get_or-set_other}
use Rattle.lists.specs.Pieces.{each, fold}
use Rattle.lists.proofs.Each.{each_none, each_more, each-ext}
use Rattle.lists.proofs.Picks.{pick-le, pick-gt}
use Rattle.votes.specs.declared.Candidate.{Candidate}
use Rattle.votes.specs.declared.Candidates.{Candidates}
use Rattle.votes.specs.Votes.{places, blank_candidate, no_candidates, with_candidate, tabled, candidate_at, listed}

module _ (t : Candidates) (c : Candidate) where
  pub candidate-full : places ≤ t.len → t ≡ with_candidate t c
  unfolding with_candidate
  candidate-full h = pick-le _ _ places t.len h

  pub candidate-kept : t.len < places → record { items = set t.items t.len c; len = t.len + 1 } ≡ with_candidate t c
  unfolding with_candidate
  candidate-kept h = pick-gt _ _ places t.len h

-- the two ways out of `with`
pub ruleset filling = (candidate-full, candidate-kept)

-- ---- a table that holds a list

pub record Holds (t : Candidates) (l : List Candidate) : Type 0 where
  pub number : t.len ≡ length l
  pub room : length t.items ≡ 8
  pub list : each (candidate_at t) t.len ≡ l

pub holds-none : Holds no_candidates []
holds-none = record { number = refl; room = refl; list = each_none _ }

pub holds_more : (t : Candidates) (l : List Candidate) (c : Candidate) → Holds t l → length l < places → Holds (with_candidate t c) (l ++ (c ∷ []))
holds_more t l c h k =
    let e : record { items = set t.items t.len c; len = t.len + 1 } ≡ with_candidate t c =
    candidate-kept t c (omega (arith, h.number)) in
    subst (λ (r : Candidates). Holds r (l ++ (c ∷ []))) e
    (record {
      number = omega (arith, h.number, length-append l (c ∷ []));
      room = length-set t.items t.len c ∙ h.room;
      list =
          each_more (λ i. get_or (set t.items t.len c) i blank_candidate) t.len
          ∙ ap₂ (λ (x : List Candidate) (y : Candidate). x ++ (y ∷ []))
          (each-ext (λ i. get_or (set t.items t.len c) i blank_candidate) (candidate_at t) t.len
          (λ i q. get_or-set_other t.items t.len i c blank_candidate (λ e. omega arith))
          ∙ h.list)
          (get_or-set_same t.items t.len c blank_candidate (omega (arith, h.number, h.room)));
    })

pub holds-listed : (t : Candidates) (l : List Candidate) → Holds t l → length l ≤ places → listed t ≡ l
holds-listed t l h k =
    let e : min t.len places ≡ t.len = omega (arith, h.number) in
    ap (each (candidate_at t)) e ∙ h.list

holds-all : (l front : List Candidate) (t : Candidates) → Holds t front → length front + length l ≤ places → Holds (fold with_candidate t l) (front ++ l)
unfolding fold
holds-all [] front t h k = subst (Holds t) (sym (append-nil front)) h
holds-all (c ∷ l) front t h k =
    let next : Holds (with_candidate t c) (front ++ (c ∷ [])) = holds_more t front c h (omega arith) in
    subst (Holds (fold with_candidate (with_candidate t c) l)) (append_assoc front (c ∷ []) l)
    (holds-all l (front ++ (c ∷ [])) (with_candidate t c) next (omega (arith, length-append front (c ∷ []))))

pub tabled-holds : (l : List Candidate) → length l ≤ places → Holds (tabled l) l
unfolding tabled
tabled-holds l h = holds-all l [] no_candidates holds-none (omega arith)
