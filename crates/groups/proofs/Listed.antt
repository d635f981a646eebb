-- A table's candidates as a part of its places, and the words of the library for folding and keeping. Assumes nothing.
use Rattle.std.proofs.Common.{◌≡◌, ℕ, zero, suc, ◌≤◌, min, Bool, true, false, cond, List, [], ◌∷◌, ◌++◌, length, get_or, take, refl, ap, ◌∙◌, arith, take-suc}
use Rattle.std.specs.List
use Rattle.lists.specs.Cases.{pick}
use Rattle.lists.specs.Pieces.{each, keep, fold}
use Rattle.votes.specs.Votes.{blank_candidate, candidate_at, listed}
use Rattle.votes.specs.declared.Candidates.{Candidates}

module _ {A : Type 0} (d : A) (l : List A) where
  take-each : (n : ℕ) → n ≤ length l → take n l ≡ each (λ i. get_or l i d) n
  unfolding each
  take-each zero h = refl
  take-each (suc n) h = take-suc l n d (omega arith) ∙ ap (λ (t : List A). t ++ (get_or l n d ∷ [])) (take-each n (omega arith))

pub take-listed : (t : Candidates) (n : ℕ) → n ≡ min t.len 8 → length t.items ≡ 8 → take n t.items ≡ listed t
take-listed t n e h = take-each blank_candidate t.items n (omega arith) ∙ ap (each (candidate_at t)) e

pub fold-same : {A B : Type 0} (f : B → A → B) (b : B) (l : List A) → List.fold f b l ≡ fold f b l
unfolding fold
fold-same f b [] = refl
fold-same f b (x ∷ l) = fold-same f (f b x) l

pub keep-same : {A : Type 0} (p : A → Bool) (l : List A) → List.filter p l ≡ keep p l
unfolding keep
keep-same p [] = refl
keep-same p (x ∷ l) = go (keep-same p l) (p x)
  where
    go : List.filter p l ≡ keep p l → (b : Bool) → cond b (x ∷ List.filter p l) (List.filter p l) ≡ pick b (x ∷ keep p l) (keep p l)
    go e true = ap (λ (t : List _). x ∷ t) e
    go e false = e
