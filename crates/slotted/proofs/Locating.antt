-- Laws of the warnings that are given, and that what is listed is sound. Assumes nothing.
use Rattle.std.proofs.Common.{◌≡◌, ℕ, ◌≤◌, ◌+◌, Bool, true, false, Option, Some, None, Result, Ok, Err, IfOk, List, leb, set, take, drop, replicate, refl, arith}
use Rattle.lists.specs.Cases.{pick}
use Rattle.answers.specs.Tables.{with_item}
use Rattle.answers.specs.declared.tables.Table.{Table}
use Rattle.answers.specs.declared.notices.WarningKind.{WarningKind}
use Rattle.answers.specs.declared.notices.Warning.{Warning}
use Rattle.answers.specs.declared.kinds.Refusal.{Refusal}
use Rattle.directory.specs.Directory.{Sound}
use Rattle.directory.specs.Decisions.{page_decision}
use Rattle.directory.specs.declared.verdicts.Decided.{Decided}
use Rattle.directory.proofs.Decisions.{HoldsOf, page-sound}
use Rattle.slotted.specs.Locations.{warned, decided_warnings, located_by, located_of}
use Rattle.slotted.specs.declared.locations.Located.{Located}

-- the first three places of any table of some more say it all
pub record SameThree (small : Table Warning 3) (great : Table Warning 1026) : Type 0 where
  pub len : small.len ≡ great.len
  pub items : small.items ≡ take 3 great.items
  pub others : drop 3 great.items ≡ replicate 1023 None

same_given : (number : ℕ) (a b c : Option WarningKind) → SameThree (decided_warnings number (record { listed = None; first = a; second = b; third = c })) (decided_warnings number (record { listed = None; first = a; second = b; third = c }))
unfolding with_item
same_given number None None None = record { len = refl; items = refl; others = refl }
same_given number None None (Some c) = record { len = refl; items = refl; others = refl }
same_given number None (Some b) None = record { len = refl; items = refl; others = refl }
same_given number None (Some b) (Some c) = record { len = refl; items = refl; others = refl }
same_given number (Some a) None None = record { len = refl; items = refl; others = refl }
same_given number (Some a) None (Some c) = record { len = refl; items = refl; others = refl }
same_given number (Some a) (Some b) None = record { len = refl; items = refl; others = refl }
same_given number (Some a) (Some b) (Some c) = record { len = refl; items = refl; others = refl }

pub same_three : (number : ℕ) (d : Decided) → SameThree (decided_warnings number d) (decided_warnings number d)
same_three number d = same_given number d.first d.second d.third

-- one more at most
pub one_more : {n : ℕ} (t : Table Warning n) (number : ℕ) (kind : Option WarningKind) (k : ℕ) → t.len ≤ k → (warned t number kind).len ≤ k + 1
unfolding with_item
one_more t number None k h = omega arith
one_more {n} t number (Some kind) k h = go (leb n t.len)
  where
    go : (b : Bool) → (pick b t (record { items = set t.items t.len (Some (record { page = number; kind = kind })); len = t.len + 1 })).len ≤ k + 1
    go true = omega arith
    go false = omega arith

-- what it lists is sound
pub sound-located :
    (lim number : ℕ) (plain : List ℕ) (lenient : Bool) (l : Result Located Refusal)
    → l ≡ located_of lim number plain lenient
    → IfOk l (λ x. HoldsOf (Sound plain) x.listed)
unfolding located_of
sound-located lim number plain lenient l e = rw e (go (page_decision lim number plain lenient) (page-sound lim number plain lenient _ refl))
  where
    go : (d : Result Decided Refusal) → IfOk d (λ d. HoldsOf (Sound plain) d.listed) → IfOk (located_by number d) (λ x. HoldsOf (Sound plain) x.listed)
    go (Ok d) h = h
    go (Err r) h = tt
