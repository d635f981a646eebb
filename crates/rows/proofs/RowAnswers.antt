-- Laws of a row that is asked for, and of the rows of a decision. Assumes nothing.
use Prim.Native.Nat.{ℕ, zero, suc, ◌≤◌, ◌<◌}
use Rattle.std.proofs.Common.{Option, Some, None, Result, Ok, Err, ok_or}
use Rattle.std.specs.Result.{result_and, result_ok, result_unwrap_or}
use mathlib.Core.Path.{◌≡◌, refl, sym, ap, ◌∙◌, subst}
use mathlib.Core.List.{List, [], ◌∷◌}
use mathlib.Core.Bool.{Bool, true, false}
use native.Mathlib.Omega.{arith}
use lib.Dec.{eqb}
use lib.ListN.{length}
use borrow.Author.Tests.{eqb-true}
use Rattle.answers.specs.declared.kinds.Refusal.{Refusal}
use Rattle.answers.specs.declared.kinds.Refusal.TheVariants.{NoSuchRow}
use Rattle.rows.specs.Rows.{At, head_or, row_in, start_of, end_of}
use Rattle.directory.specs.Decisions.{Decision, numbered, listed_of, decision_of, page_decision}
use Rattle.rows.specs.RowAnswers.{rows_in, rows_of, row_of, row_found_of, rows_counted_of}
use Rattle.directory.specs.declared.verdicts.Decided.{Decided}
use Rattle.rows.specs.declared.spans.Span.{Span}
use Rattle.directory.specs.Directory.{Sound}
use Rattle.directory.specs.declared.verdicts.Listed.{Listed}
use Rattle.rows.proofs.FarEnd.{Up, rows-up}
use Rattle.directory.proofs.Decisions.{HoldsOf, decided-sound, numbered-ok, numbered-err}
use Rattle.slotted.specs.Parses.{parsed_by, parsed_of}

-- the rows ascend below 0xFF0
up-in : (plain : List ℕ) (o : Option Listed) → HoldsOf (Sound plain) o → Up (rows_in plain o)
unfolding Up
up-in plain None h = tt
up-in plain (Some l) h = rows-up plain l.start l.count h.falls

pub rows-ascend : (lim : ℕ) (plain : List ℕ) (lenient : Bool) → Up (rows_of lim plain lenient)
unfolding rows_of
rows-ascend lim plain lenient = up-in plain (listed_of (decision_of lim plain lenient)) (decided-sound lim plain lenient)

abbrev Bounded : Option Span → Type 0
Bounded None = Unit {0}
Bounded (Some s) = (s.offset < s.end) × (s.end ≤ 0xFF0)

head-low : (l : List ℕ) → Up l → head_or 0xFF0 l ≤ 0xFF0
unfolding Up
head-low [] u = omega arith
head-low (x ∷ l) u = let a : x < head_or 0xFF0 l = u.0 in let b : head_or 0xFF0 l ≤ 0xFF0 = head-low l u.1 in omega arith

row-bounded : (r : ℕ) (l : List ℕ) → Up l → Bounded (row_in r l)
unfolding row_in Up
row-bounded zero [] u = tt
row-bounded zero (x ∷ l) u = (u.0, head-low l u.1)
row-bounded (suc r) [] u = tt
row-bounded (suc r) (x ∷ l) u = row-bounded r l u.1

-- a page of another length has no rows
pub no_rows : (r : ℕ) → row_in r [] ≡ None
unfolding row_in
no_rows zero = refl
no_rows (suc r) = refl

short_none : (lim : ℕ) (plain : List ℕ) (lenient : Bool) (r : ℕ) → eqb (length plain) 4096 ≡ false → row_of lim plain lenient r ≡ None
unfolding rows_of decision_of
short_none lim plain lenient r h = rw h (no_rows r)

-- a row lies within the page
pub row_fits : (lim : ℕ) (plain : List ℕ) (lenient : Bool) (r o e : ℕ) → row_of lim plain lenient r ≡ At o e → (o < e) × (e ≤ 0xFF0) × (length plain ≡ 4096)
row_fits lim plain lenient r o e q = go (eqb (length plain) 4096) refl (subst Bounded q (row-bounded r (rows_of lim plain lenient) (rows-ascend lim plain lenient)))
  where
    go : (b : Bool) → eqb (length plain) 4096 ≡ b → (o < e) × (e ≤ 0xFF0) → (o < e) × (e ≤ 0xFF0) × (length plain ≡ 4096)
    go true h k = (k.0, k.1, eqb-true (length plain) 4096 h)
    go false h k =
        let n : row_of lim plain lenient r ≡ None = short_none lim plain lenient r h in
        let z : ◌≡◌ {A = ℕ} 0 1 = cc in
        absurd (omega arith)

pub row_within : (lim : ℕ) (plain : List ℕ) (lenient : Bool) (r : ℕ) (s : Option Span) → s ≡ row_of lim plain lenient r → (start_of s ≤ end_of s) × (end_of s ≤ length plain)
row_within lim plain lenient r (Some s) q = let f = row_fits lim plain lenient r s.offset s.end (sym q) in (omega (arith, f.0), omega (arith, f.1, f.2))
row_within lim plain lenient r None q = (omega arith, omega arith)

-- ---- what asking answers, of what is decided

module _ (lim number : ℕ) (plain : List ℕ) (lenient : Bool) where
  -- the rows are those of what is listed
  pub rows-decided : (d : Decided) → Ok d ≡ page_decision lim number plain lenient → rows_in plain d.listed ≡ rows_of lim plain lenient
  unfolding rows_of
  rows-decided d e = rw (numbered-ok number (decision_of lim plain lenient) d e) refl

  pub rows-refused : (x : Refusal) → Err x ≡ page_decision lim number plain lenient → [] ≡ rows_of lim plain lenient
  unfolding rows_of
  rows-refused x e = rw (numbered-err number (decision_of lim plain lenient) x e) refl

  -- what stands behind the parse: its refusal, or what is asked of the page
  module _ {A : Type 0} (s : Result A Refusal) where
    pub after-taken : (d : Decided) → Ok d ≡ page_decision lim number plain lenient → s ≡ result_and (parsed_of lim number plain lenient) s
    unfolding parsed_of
    after-taken d e = ap (λ (p : Result Decided Refusal). result_and (parsed_by number plain p) s) e

    pub after-refused : (x : Refusal) → Err x ≡ page_decision lim number plain lenient → Err x ≡ result_and (parsed_of lim number plain lenient) s
    unfolding parsed_of
    after-refused x e = ap (λ (p : Result Decided Refusal). result_and (parsed_by number plain p) s) e

  pub found-row :
      (r : ℕ) (d : Decided) (s : Option Span)
      → Ok d ≡ page_decision lim number plain lenient
      → s ≡ row_in r (rows_in plain d.listed)
      → ok_or s (NoSuchRow r) ≡ row_found_of lim number plain lenient r
  found-row r d s e es =
      ap (λ (o : Option Span). ok_or o (NoSuchRow r)) (es ∙ ap (row_in r) (rows-decided d e)) ∙ after-taken (ok_or (row_of lim plain lenient r) (NoSuchRow r)) d e

  pub counted-rows :
      (d : Decided) (n : ℕ)
      → Ok d ≡ page_decision lim number plain lenient
      → n ≡ length (rows_in plain d.listed)
      → Ok n ≡ rows_counted_of lim number plain lenient
  counted-rows d n e en = ap (λ (n : ℕ). Ok n) (en ∙ ap length (rows-decided d e)) ∙ after-taken (Ok (length (rows_of lim plain lenient))) d e

  -- without what is answered: no row, and none at all, of a page that is refused
  pub found-span : (r : ℕ) → result_ok (row_found_of lim number plain lenient r) ≡ row_of lim plain lenient r
  unfolding parsed_of rows_of
  found-span r = go (decision_of lim plain lenient)
    where
      here : (o : Option Span) → result_ok (ok_or o (NoSuchRow r)) ≡ o
      here None = refl
      here (Some s) = refl

      go :
          (d : Decision)
          → result_ok (result_and (parsed_by number plain (numbered number d)) (ok_or (row_in r (rows_in plain (listed_of d))) (NoSuchRow r))) ≡ row_in r (rows_in plain (listed_of d))
      go (Ok d) = here (row_in r (rows_in plain d.listed))
      go (Err u) = sym (no_rows r)

  pub counted-length : result_unwrap_or (rows_counted_of lim number plain lenient) 0 ≡ length (rows_of lim plain lenient)
  unfolding parsed_of rows_of
  counted-length = go (decision_of lim plain lenient)
    where
      go :
          (d : Decision)
          → result_unwrap_or (result_and (parsed_by number plain (numbered number d)) (Ok (length (rows_in plain (listed_of d))))) 0 ≡ length (rows_in plain (listed_of d))
      go (Ok d) = refl
      go (Err u) = refl

-- the ways out of what asks
pub ruleset asking = (after-refused, found-row, counted-rows, found-span, counted-length)
