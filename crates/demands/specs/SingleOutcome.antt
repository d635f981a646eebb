-- "Each public contract settles result and lent bytes on all inputs; show that it admits a single outcome": for each form that a contract takes, two
-- outcomes that meet it are the same. The exceptions are in docs/DECISIONS.md. Assumes nothing.
use Rattle.std.specs.Prelude.{ℕ, ◌≡◌, Bool, Option, Result, List}
use Rattle.std.specs.Borrow.{Bor}
use Rattle.answers.specs.Answers.{Answer, answer_in}
use Rattle.answers.specs.declared.kinds.Refusal.{Refusal}
use Rattle.sector.specs.declared.fits.Fit.{Fit}
use Rattle.summary.specs.Replace.{Renews}
use Rattle.rows.specs.Rows.{IsPart, IsRow}
use Rattle.rows.specs.RowAnswers.{StartsWritten}
use Rattle.rows.specs.declared.spans.Row.{Row}
use Rattle.rows.specs.declared.spans.Span.{Span}
use Rattle.choice.specs.declared.Refused.{Refused}
use Rattle.verdict.specs.declared.Decoding.{Decoding}
use Rattle.numbers.specs.Writes.{Wrote}
use Rattle.fields.specs.Fields.{Field, Put}
use Rattle.lumeviqo.specs.Calls.{ScanCall, ReplaceCall, DecodingCall}

-- a promise of an outcome
abbrev pub Single : {A : Type 0} → (A → Type 0) → Type 0
Single {A} P = (x y : A) → P x → P y → x ≡ y

-- two parts of the caller's slice are the same place with the same bytes: that is all there is of a part outside of proofs
pub record SamePart (p q : Bor (List ℕ)) : Type 0 where
  pub place : p.ref_ptr ≡ q.ref_ptr
  pub bytes : p.now ≡ q.now

pub record SameRow (v w : Row) : Type 0 where
  pub starts : v.offset ≡ w.offset
  pub part : SamePart v.bytes w.bytes
  pub mark : v.exact ≡ w.exact

pub record SingleOutcome : Type 1 where
  -- a result, or the bytes of a buffer; both, where the bytes may depend on the result
  pub result : {A : Type 0} (x : A) → Single (λ (r : A). r ≡ x)
  -- an answer with nothing beside it where it accepts: `check_integrity`, `check_written`, `parse_answer`, `row_answer`, `let_through`
  pub answered : (x : Answer) → Single (λ (r : Result (Unit {0}) Refusal). answer_in r ≡ x)
  pub result-bytes : {A : Type 0} (x : A) (f : A → List ℕ) → Single (λ (o : A × List ℕ). (o.0 ≡ x) × (o.1 ≡ f o.0))
  -- `replace_sector`: its result, the stored page and the shifted bytes
  pub replacement :
      (number s : ℕ) (new stored shifted : List ℕ) (fits : List Fit)
      → Single (λ (o : Result (List Fit) Refusal × List ℕ × List ℕ). Renews number s new stored o.1 shifted o.2 fits o.0)
  -- what is put into a buffer: its bytes, and the place behind
  pub put : (l : List ℕ) (at : ℕ) (fs : List Field) → Single (λ (o : List ℕ × ℕ). Put l at fs o.0 o.1)
  pub wrote : (l : List ℕ) (at : ℕ) (ys : List ℕ) → Single (λ (o : List ℕ × ℕ). Wrote l at ys o.0 o.1)
  -- functions for C: the lent buffers, the answer, and what is returned
  pub scan-call :
      (number : ℕ) (stored shifted answer : List ℕ)
      → Single (λ (o : List ℕ × List ℕ × ℕ). ScanCall number stored shifted o.0 answer o.1 o.2)
  pub replace-call :
      (number s : ℕ) (new fits stored shifted answer : List ℕ)
      → Single (λ (o : List ℕ × List ℕ × List ℕ × ℕ). ReplaceCall number s new fits stored o.0 shifted o.1 answer o.2 o.3)
  pub decoding-call :
      (lent : Bool) (d : Result Decoding Refused) (stored shifted out answer : List ℕ)
      → Single (λ (o : List ℕ × List ℕ × ℕ). DecodingCall lent d stored shifted out o.0 answer o.1 o.2)
  -- `row_starts`: its result, and the lent buffer
  pub starts :
      (lim number : ℕ) (plain : List ℕ) (lenient : Bool) (starts : List ℕ)
      → Single (λ (o : Result ℕ Refusal × List ℕ). StartsWritten lim number plain lenient starts o.1 o.0)
  -- `row_bytes` and `row_at`
  pub part : (s : Bor (List ℕ)) (a : Option Span) (p q : Bor (List ℕ)) → IsPart s p a → IsPart s q a → SamePart p q
  pub row : (s : Bor (List ℕ)) (a : Option Span) (v w : Row) → IsRow s a v → IsRow s a w → SameRow v w
