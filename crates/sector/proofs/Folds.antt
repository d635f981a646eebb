-- The greatest of the numbers of a list, as a fold finds it. Assumes nothing.
use Rattle.std.proofs.Common.{◌≡◌, ℕ, suc, ◌+◌, max, List, [], ◌∷◌, length, get_or, ap, arith}
use Rattle.std.specs.List.{fold}
use Rattle.lists.specs.Counts.{greatest}
use Rattle.lists.proofs.Greatest.{greatest-none, greatest-more, greatest-ahead, greatest-ext}

first-greatest : (x : ℕ) (l : List ℕ) → greatest (λ v. get_or (x ∷ l) v 0) (length (x ∷ l)) ≡ max x (greatest (λ v. get_or l v 0) (length l))
first-greatest x l =
    let f : ℕ → ℕ = λ v. get_or (x ∷ l) v 0 in
    let n = length l in
    let e : suc n ≡ 1 + n = omega arith in
    let rest : greatest (λ v. f (1 + v)) n ≡ greatest (λ v. get_or l v 0) n = greatest-ext _ _ n (λ k h. let q : 1 + k ≡ suc k = omega arith in ap f q) in
    omega (arith, ap (greatest f) e, greatest-ahead f 1 n, greatest-more f 0, greatest-none f, rest)

from-greatest : (a : ℕ) (l : List ℕ) → fold max a l ≡ max a (greatest (λ v. get_or l v 0) (length l))
from-greatest a [] = omega (arith, greatest-none (λ v. get_or {A = ℕ} [] v 0))
from-greatest a (x ∷ l) = omega (arith, from-greatest (max a x) l, first-greatest x l)

pub fold-greatest : (l : List ℕ) → fold max 0 l ≡ greatest (λ v. get_or l v 0) (length l)
fold-greatest l = omega (arith, from-greatest 0 l)
