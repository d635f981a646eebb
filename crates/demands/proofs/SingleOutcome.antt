-- Contracts admit a single outcome, proved. Assumes nothing.
use Prim.Native.Nat.{ℕ}
use mathlib.Core.Path.{◌≡◌, refl, sym, ap, ◌∙◌}
use mathlib.Core.List.{List}
use denote.Ref.{Bor}
use Rattle.std.specs.Prelude.{Option, Result, Ok, Err}
use Rattle.answers.specs.Answers.{answer_in}
use Rattle.answers.specs.declared.kinds.Refusal.{Refusal}
use Rattle.rows.specs.Rows.{IsPart}
use Rattle.rows.specs.declared.spans.Span.{Span}
use Rattle.demands.specs.SingleOutcome.{SamePart, SingleOutcome}

-- two that are equal to a third
both : {A : Type 0} {x y z : A} → x ≡ z → y ≡ z → x ≡ y
both p q = p ∙ sym q

-- two answers with nothing beside them
alike : (r s : Result (Unit {0}) Refusal) → answer_in r ≡ answer_in s → r ≡ s
alike (Ok u) (Ok v) e = refl
alike (Ok u) (Err x) e = cc
alike (Err x) (Ok v) e = cc
alike (Err x) (Err y) e = cc

same-part : (s : Bor (List ℕ)) (a : Option Span) (p q : Bor (List ℕ)) → IsPart s p a → IsPart s q a → SamePart p q
same-part s a p q g h = record { place = both g.place h.place; bytes = both g.bytes h.bytes }

pub single-outcome : SingleOutcome
single-outcome =
    record {
      result = λ x r s p q. both p q;
      answered = λ x r s p q. alike r s (both p q);
      result-bytes = λ x f r s p q. let e = both p.0 q.0 in λ i. (e i, (p.1 ∙ ap f e ∙ sym q.1) i);
      replacement = λ number s new stored shifted fits x y p q. λ i. (both p.0 q.0 i, both p.1 q.1 i, both p.2 q.2 i);
      put = λ l at fs x y p q. λ i. (both p.bytes q.bytes i, both p.place q.place i);
      wrote = λ l at ys x y p q. λ i. (both p.bytes q.bytes i, both p.place q.place i);
      scan-call = λ number stored shifted answer x y p q. λ i. (
        both p.bytes q.bytes i,
        both p.told.bytes q.told.bytes i,
        both p.told.place q.told.place i,
      );
      replace-call = λ number s new fits stored shifted answer x y p q. λ i. (
        both p.page q.page i,
        both p.bytes q.bytes i,
        both p.told.bytes q.told.bytes i,
        both p.told.place q.told.place i,
      );
      decoding-call = λ lent d stored shifted out answer x y p q. λ i. (
        both p.plain q.plain i,
        both p.told.bytes q.told.bytes i,
        both p.told.place q.told.place i,
      );
      starts = λ lim number plain lenient starts x y p q. λ i. (both p.counted q.counted i, both p.written q.written i);
      part = same-part;
      row = λ s a v w g h.
          record {
            starts = both g.starts h.starts;
            part = same-part s a v.bytes w.bytes g.part h.part;
            mark = both g.inexact h.inexact;
          };
    }
