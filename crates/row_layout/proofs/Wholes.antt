-- All rows as a whole: what is put from the page is their layout. Assumes nothing.
use Prim.Native.Nat.{ℕ, ◌≤◌}
use Rattle.std.proofs.Common.{Option, None, Result, Ok, Err, IfSome, IfOk, MatchOption, refl}
use Rattle.std.specs.Result.{result_ok}
use mathlib.Core.Path.{◌≡◌, ap, subst, ◌∙◌}
use mathlib.Core.Bool.{Bool}
use mathlib.Core.List.{List}
use native.Mathlib.Omega.{arith}
use lib.ListN.{length}
use Rattle.answers.specs.Answers.{Answer, answer_in}
use Rattle.answers.specs.declared.kinds.Refusal.{Refusal}
use Rattle.directory.specs.Decisions.{Decision, numbered, listed_of, decision_of, page_decision}
use Rattle.directory.specs.declared.verdicts.Decided.{Decided}
use Rattle.directory.specs.declared.verdicts.Listed.{Listed}
use Rattle.slotted.specs.Locations.{located_by, located_of}
use Rattle.slotted.specs.Parses.{parsed_by, parsed_of}
use Rattle.slotted.specs.declared.locations.Located.{Located}
use Rattle.rows.specs.RowAnswers.{rows_in, rows_of}
use Rattle.numbers.specs.Writes.{Wrote}
use Rattle.fields.specs.Fields.{layout_bytes, Put}
use Rattle.fields.proofs.Puts.{put_whole, layout-put}
use Rattle.parts.specs.Parts.{answer_fields}
use Rattle.parts.proofs.Sizes.{answer-size}
use Rattle.row_layout.specs.RowLayouts.{list_fields, rows_fields, rows_size, rows_bytes, page_rows_bytes}
use Rattle.row_layout.proofs.Sizes.{list-size, rows-size}

-- what is listed, and nothing where the page is refused
abbrev pub listed_by : Result Decided Refusal → Option Listed
listed_by (Ok d) = d.listed
listed_by (Err r) = None

module _ (lim number : ℕ) (plain : List ℕ) (lenient : Bool) (l : Result Decided Refusal) (e : l ≡ page_decision lim number plain lenient) where
  decided-rows : rows_in plain (listed_by l) ≡ rows_of lim plain lenient
  unfolding rows_of
  decided-rows = ap (λ (x : Result Decided Refusal). rows_in plain (listed_by x)) e ∙ go (decision_of lim plain lenient)
    where
      go : (d : Decision) → rows_in plain (listed_by (numbered number d)) ≡ rows_in plain (listed_of d)
      go (Ok d) = refl
      go (Err u) = refl

  decided-answer : answer_in l ≡ answer_in (parsed_of lim number plain lenient)
  unfolding parsed_of
  decided-answer = ap (λ (x : Result Decided Refusal). answer_in x) e ∙ go (decision_of lim plain lenient)
    where
      go : (d : Decision) → answer_in (numbered number d) ≡ answer_in (parsed_by number plain (numbered number d))
      go (Ok d) = refl
      go (Err u) = refl

  -- the rows are those of what is listed
  pub rows_decided :
      {out first after : List ℕ} {p next : ℕ} (x : Answer) (o : Option Listed)
      → x ≡ answer_in l
      → o ≡ listed_by l
      → Put out 0 (answer_fields x) first p
      → Wrote first p (layout_bytes (list_fields (rows_in plain o))) after next
      → rows_size ≤ length out
      → Wrote out 0 (page_rows_bytes lim number plain lenient) after next
  unfolding rows_fields
  rows_decided {out} {first} {after} {p} {next} x o ex eo a w room =
      let rows : List ℕ = rows_in plain o in
      subst (λ (x : Answer). Wrote out 0 (rows_bytes x (rows_of lim plain lenient)) after next) (ex ∙ decided-answer)
      (subst (λ (rows : List ℕ). Wrote out 0 (rows_bytes x rows) after next) (ap (rows_in plain) eo ∙ decided-rows)
      (layout-put (rows-size x rows)
      (put_whole (list_fields rows) (answer-size x) (list-size rows) a w (omega (arith, room)))
      (omega (arith, room))))

-- the same of a page that was located: what is listed, and nothing where it is refused
abbrev pub listed_in : Result Located Refusal → Option Listed
listed_in (Ok l) = l.listed
listed_in (Err r) = None

pub taken-listed :
    (l : Result Located Refusal) (o : Option Located) (x : Option Listed)
    → o ≡ result_ok l
    → MatchOption o (x ≡ None) (λ l. x ≡ l.listed)
    → x ≡ listed_in l
taken-listed l o x e m = go l (subst (λ (o : Option Located). MatchOption o (x ≡ None) (λ l. x ≡ l.listed)) e m)
  where
    go : (l : Result Located Refusal) → MatchOption (result_ok l) (x ≡ None) (λ l. x ≡ l.listed) → x ≡ listed_in l
    go (Ok l) m = m
    go (Err r) m = m

pub sound-listed : (l : Result Located Refusal) (P : Listed → Type 0) → IfOk l (λ l. IfSome l.listed P) → IfSome (listed_in l) P
sound-listed (Ok l) P h = h
sound-listed (Err r) P h = tt

located-listed : (number : ℕ) (d : Result Decided Refusal) → listed_in (located_by number d) ≡ listed_by d
located-listed number (Ok d) = refl
located-listed number (Err r) = refl

located-answer : (number : ℕ) (d : Result Decided Refusal) → answer_in (located_by number d) ≡ answer_in d
located-answer number (Ok d) = refl
located-answer number (Err r) = refl

module _ (lim number : ℕ) (plain : List ℕ) (lenient : Bool) (l : Result Located Refusal) (e : l ≡ located_of lim number plain lenient) where
  -- the rows are those of what is listed
  pub rows_written :
      {out first after : List ℕ} {p next : ℕ} (x : Answer) (o : Option Listed)
      → x ≡ answer_in l
      → o ≡ listed_in l
      → Put out 0 (answer_fields x) first p
      → Wrote first p (layout_bytes (list_fields (rows_in plain o))) after next
      → rows_size ≤ length out
      → Wrote out 0 (page_rows_bytes lim number plain lenient) after next
  unfolding located_of
  rows_written x o ex eo =
      let d : Result Decided Refusal = page_decision lim number plain lenient in
      rows_decided lim number plain lenient d refl x o
      (ex ∙ ap (λ (l : Result Located Refusal). answer_in l) e ∙ located-answer number d)
      (eo ∙ ap listed_in e ∙ located-listed number d)
