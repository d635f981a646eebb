-- Laws of the slots that point into the directory, as chains over its slots find them. Assumes nothing.
use Rattle.std.proofs.Common.{◌≡◌, ℕ, suc, Bool, true, false, cond, Some, List, [], ◌∷◌, map, option_map, length, sym, refl, ap, ◌∙◌}
use Rattle.std.specs.List.{find, count_by, filter}
use Rattle.std.proofs.lemmas.List.Sums.{length-filter}
use Rattle.lists.specs.Cases.{pick}
use Rattle.lists.specs.Pieces.{keep}
use Rattle.slots.specs.Slots.{slot_value}
use Rattle.directory.specs.Directory.{first_of}

find_kept : (p : ℕ → Bool) (l : List ℕ) → find p l ≡ first_of (keep p l)
unfolding keep
find_kept p [] = refl
find_kept p (x ∷ l) = go (p x) (find_kept p l)
  where
    go : (b : Bool) → find p l ≡ first_of (keep p l) → cond b (Some x) (find p l) ≡ first_of (pick b (x ∷ keep p l) (keep p l))
    go true e = refl
    go false e = e

pub find-mapped : (p : ℕ → Bool) (l : List (List ℕ)) → option_map slot_value (find (λ s. p (slot_value s)) l) ≡ find p (map slot_value l)
find-mapped p [] = refl
find-mapped p (s ∷ l) = go (p (slot_value s)) (find-mapped p l)
  where
    go : (b : Bool) → option_map slot_value (find (λ s. p (slot_value s)) l) ≡ find p (map slot_value l) → option_map slot_value (cond b (Some s) (find (λ s. p (slot_value s)) l)) ≡ cond b (Some (slot_value s)) (find p (map slot_value l))
    go true e = refl
    go false e = e

pub first-inside : (p : ℕ → Bool) (l : List (List ℕ)) → option_map slot_value (find (λ s. p (slot_value s)) l) ≡ first_of (keep p (map slot_value l))
first-inside p l = find-mapped p l ∙ find_kept p (map slot_value l)

filter_kept : (p : ℕ → Bool) (l : List (List ℕ)) → length (filter (λ s. p (slot_value s)) l) ≡ length (keep p (map slot_value l))
unfolding keep
filter_kept p [] = refl
filter_kept p (s ∷ l) = go (p (slot_value s)) (filter_kept p l)
  where
    rest : List ℕ
    rest = keep p (map slot_value l)

    left : List (List ℕ)
    left = filter (λ s. p (slot_value s)) l

    go : (b : Bool) → length left ≡ length rest → length (cond b (s ∷ left) left) ≡ length (pick b (slot_value s ∷ rest) rest)
    go true e = ap (λ (n : ℕ). suc n) e
    go false e = e

pub count_kept : (p : ℕ → Bool) (l : List (List ℕ)) → count_by (λ s. p (slot_value s)) l ≡ length (keep p (map slot_value l))
count_kept p l = sym (length-filter (λ s. p (slot_value s)) l) ∙ filter_kept p l
