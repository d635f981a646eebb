-- What the parse comes to: at most three warnings; a directory that fits its table; a small value that says the same. Assumes nothing.
use Rattle.std.proofs.Common.{◌≡◌, ℕ, ◌*◌, ◌≤◌, ◌<◌, min, Bool, List, Option, Some, None, Result, Ok, Err, IfSome, IfOk, option_map, refl, sym, ap, subst, arith}
use Rattle.std.proofs.lemmas.Result.{IfOk-at_ok}
use Rattle.lists.specs.Bytes.{byte_at}
use Rattle.answers.specs.Tables.{empty}
use Rattle.answers.specs.declared.kinds.Refusal.{Refusal}
use Rattle.answers.proofs.Limits.{limit-within}
use Rattle.directory.specs.Directory.{slots_of, Sound}
use Rattle.directory.specs.Decisions.{Decision, numbered, listed_of, decision_of, page_decision}
use Rattle.directory.specs.declared.verdicts.Listed.{Listed}
use Rattle.directory.specs.declared.verdicts.Decided.{Decided}
use Rattle.directory.proofs.Found.{scanned-few}
use Rattle.directory.proofs.Decisions.{HoldsOf, found-holds, decided-holds, decided-sound}
use Rattle.slotted.specs.Locations.{warned, decided_warnings, located_by, located_of}
use Rattle.slotted.specs.Parses.{directory_with, directory_of, parsed_by, parsed_of, SaysTheParse}
use Rattle.slotted.specs.declared.locations.Located.{Located}
use Rattle.slotted.proofs.Locating.{one_more, same_three}

-- "a parse never gives more than three warnings"
three : (n number : ℕ) (d : Decided) → (decided_warnings {n = n} number d).len ≤ 3
three n number d =
    let a = one_more {n = n} empty number d.first 0 (omega arith) in
    let b = one_more {n = n} (warned empty number d.first) number d.second 1 a in
    one_more {n = n} (warned (warned empty number d.first) number d.second) number d.third 2 b

pub three-warnings : (lim number : ℕ) (plain : List ℕ) (lenient : Bool) → IfOk (parsed_of lim number plain lenient) (λ p. p.warnings.len ≤ 3)
unfolding parsed_of
three-warnings lim number plain lenient = go (decision_of lim plain lenient)
  where
    go : (d : Decision) → IfOk (parsed_by number plain (numbered number d)) (λ p. p.warnings.len ≤ 3)
    go (Ok d) = three 1026 number d
    go (Err u) = tt

-- ---- the tables

-- at most 1,024 slots are listed of a page of bytes, at every limit: a prelude declares at most 255, and a limit that fits has at most 1,024 pairs below it
pub listed-few : (lim : ℕ) (plain : List ℕ) (lenient : Bool) → byte_at plain 0xFF0 < 256 → HoldsOf (λ start count. count ≤ 1024) (listed_of (decision_of lim plain lenient))
listed-few lim plain lenient b =
    decided-holds lim plain (λ start count. count ≤ 1024) lenient
    (λ f.
    found-holds lim plain (λ start count. count ≤ 1024)
    (λ d e. let h : 2 * d.slots ≤ lim = scanned-few lim plain d e in let k : lim ≤ 2048 = (limit-within lim f).1 in omega arith)
    (byte_at plain 0xFF0) (λ s e. omega arith) lenient)

-- the directory fits its table
fits : (plain : List ℕ) (o : Option Listed) → HoldsOf (λ start count. count ≤ 1024) o → IfSome (option_map (directory_of plain) o) (λ d. d.len ≤ 1024)
fits plain None h = tt
fits plain (Some l) h = h

pub directory-fits :
    (lim number : ℕ) (plain : List ℕ) (lenient : Bool)
    → byte_at plain 0xFF0 < 256
    → IfOk (parsed_of lim number plain lenient) (λ p. IfSome p.directory (λ d. d.len ≤ 1024))
unfolding parsed_of
directory-fits lim number plain lenient b = go (decision_of lim plain lenient) (listed-few lim plain lenient b)
  where
    go :
        (d : Decision)
        → HoldsOf (λ start count. count ≤ 1024) (listed_of d)
        → IfOk (parsed_by number plain (numbered number d)) (λ p. IfSome p.directory (λ d. d.len ≤ 1024))
    go (Ok d) h = fits plain d.listed h
    go (Err u) h = tt

-- ---- the small value

-- so its slots are all there are
all-slots : (plain : List ℕ) (o : Option Listed) → HoldsOf (λ start count. count ≤ 1024) o → option_map (λ d. directory_with (slots_of plain d.start d.count) d) o ≡ option_map (directory_of plain) o
all-slots plain None h = refl
all-slots plain (Some l) h = let few : l.count ≡ min l.count 1024 = omega arith in ap (λ (n : ℕ). Some (directory_with (slots_of plain l.start n) l)) few

-- it says what the parse says
pub located-says :
    (lim number : ℕ) (plain : List ℕ) (lenient : Bool)
    → byte_at plain 0xFF0 < 256
    → SaysTheParse plain (located_of lim number plain lenient) (parsed_of lim number plain lenient)
unfolding located_of parsed_of
located-says lim number plain lenient b = go (decision_of lim plain lenient) (listed-few lim plain lenient b)
  where
    go :
        (d : Decision)
        → HoldsOf (λ start count. count ≤ 1024) (listed_of d)
        → SaysTheParse plain (located_by number (numbered number d)) (parsed_by number plain (numbered number d))
    go (Ok d) h =
        let same = same_three number d in
        record {
          directory = all-slots plain d.listed h;
          warnings = same.len;
          first_three = same.items;
          no_other = same.others;
        }
    go (Err u) h = refl

-- so a value that is equal to it does
pub located-parse :
    (lim number : ℕ) (plain : List ℕ) (lenient : Bool)
    → byte_at plain 0xFF0 < 256
    → (l : Result Located Refusal)
    → l ≡ located_of lim number plain lenient
    → SaysTheParse plain l (parsed_of lim number plain lenient)
located-parse lim number plain lenient small l e =
    subst (λ (x : Result Located Refusal). SaysTheParse plain x (parsed_of lim number plain lenient)) (sym e) (located-says lim number plain lenient small)

-- it lists few slots
pub located-few :
    (lim number : ℕ) (plain : List ℕ) (lenient : Bool)
    → byte_at plain 0xFF0 < 256
    → (l : Result Located Refusal)
    → l ≡ located_of lim number plain lenient
    → IfOk l (λ x. HoldsOf (λ start count. count ≤ 1024) x.listed)
unfolding located_of
located-few lim number plain lenient small l e = rw e (go (decision_of lim plain lenient) (listed-few lim plain lenient small))
  where
    go : (d : Decision) → HoldsOf (λ start count. count ≤ 1024) (listed_of d) → IfOk (located_by number (numbered number d)) (λ x. HoldsOf (λ start count. count ≤ 1024) x.listed)
    go (Ok d) h = h
    go (Err u) h = tt

-- what it lists is sound, and few
pub located-sound :
    (lim number : ℕ) (plain : List ℕ) (lenient : Bool) (d : Decided)
    → byte_at plain 0xFF0 < 256
    → Ok d ≡ page_decision lim number plain lenient
    → HoldsOf (λ start count. Sound plain start count × (count ≤ 1024)) d.listed
located-sound lim number plain lenient d small e =
    IfOk-at_ok (λ d. HoldsOf (λ start count. Sound plain start count × (count ≤ 1024)) d.listed) (sym e)
    (go (decision_of lim plain lenient) (decided-sound lim plain lenient) (listed-few lim plain lenient small))
  where
    both : (o : Option Listed) → HoldsOf (Sound plain) o → HoldsOf (λ start count. count ≤ 1024) o → HoldsOf (λ start count. Sound plain start count × (count ≤ 1024)) o
    both None s h = tt
    both (Some l) s h = (s, h)

    go :
        (d : Decision)
        → HoldsOf (Sound plain) (listed_of d)
        → HoldsOf (λ start count. count ≤ 1024) (listed_of d)
        → IfOk (numbered number d) (λ d. HoldsOf (λ start count. Sound plain start count × (count ≤ 1024)) d.listed)
    go (Ok d) s h = both d.listed s h
    go (Err u) s h = tt
