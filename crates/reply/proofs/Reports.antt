-- A report's bytes, put one behind the other, and its line. Assumes nothing.
use Prim.Native.Nat.{ℕ, suc, ◌+◌, ◌*◌, ◌%◌, ◌≤◌, ◌<◌}
use mathlib.Core.Path.{◌≡◌, sym, ap, ap₂, ◌∙◌}
use mathlib.Core.List.{List, [], ◌∷◌, ◌++◌, append-nil}
use native.Mathlib.Omega.{arith}
use borrow.Author.Tests.{le-leb, lt-leb}
use lib.ListN.{length, set, take, length-append, length-set}
use lib.Seq.{take_all}
use Rattle.lists.specs.Cases.{flag}
use Rattle.lists.specs.Pieces.{over}
use Rattle.answers.specs.Answers.{number_of, refusal_number}
use Rattle.answers.specs.Trust.{source_number, confidence_number}
use Rattle.sector.specs.declared.fits.Fit.{Fit}
use Rattle.choice.specs.Rules.{refused_answer}
use Rattle.choice.specs.declared.Refused.{Refused}
use Rattle.verdict.specs.Sectors.{entry}
use Rattle.verdict.specs.declared.Decoding.{Decoding}
use Rattle.std.proofs.Common.{Result, Ok, Err}
use Rattle.lists.proofs.Joined.{joined_length, pieces_more}
use Rattle.lists.proofs.Over.{front-take, over-length, over-one, over-then, over-push}
use Rattle.numbers.specs.Numbers.{big_bytes}
use Rattle.numbers.specs.Writes.{Wrote}
use Rattle.numbers.proofs.Widths.{big-long}
use Rattle.numbers.proofs.Kept.{kept-room}
use Rattle.digits.specs.Digits.{hexed, hexed_number, hexed_into}
use Rattle.digits.proofs.Spelling.{hexed-length, hex-yes}
use Rattle.reply.specs.Report.{report_most, fit_report, fit_reports, accepted_bytes, told_bytes, report_bytes, reported_into, reported_number, line_of}

pub line-size : (bytes : List ℕ) → length (line_of bytes) ≡ length bytes + length bytes + 1
unfolding line_of
line-size bytes = omega (arith, length-append (hexed bytes) (10 ∷ []), hexed-length bytes)

-- the digits, and the newline behind them
module _ (bytes out : List ℕ) (h : length bytes + length bytes + 1 ≤ length out) where
  pub line-digits : (n : ℕ) → n ≡ hexed_number bytes out → n ≡ length bytes + length bytes
  line-digits n e = e ∙ sym (hex-yes bytes out (omega arith)).0

  pub line-length : (n : ℕ) → n ≡ hexed_number bytes out → n + 1 ≡ length (line_of bytes)
  line-length n e = omega (arith, line-digits n e, line-size bytes)

  pub line-put : (n : ℕ) (filled : List ℕ) → n ≡ hexed_number bytes out → filled ≡ hexed_into bytes out → set filled n 10 ≡ over out 0 (line_of bytes)
  unfolding line_of
  line-put n filled e f =
      ap (λ (l : List ℕ). set l n 10) (f ∙ sym (hex-yes bytes out (omega arith)).1)
      ∙ over-push out 0 (hexed bytes) n 10 (omega (arith, line-digits n e, hexed-length bytes)) (omega (arith, line-digits n e))

-- a fit: eight bytes
pub fit_length : (f : Fit) → length (fit_report f) ≡ 8
unfolding fit_report
fit_length f =
    simp length-append (omega (arith, big-long 2 f.peak, big-long 2 f.runner_up, big-long 2 f.tied))

-- a number of two bytes behind a piece
module _ (l : List ℕ) (at : ℕ) (xs : List ℕ) (b n : ℕ) {before after : List ℕ} {r : ℕ} (e : before ≡ over l at xs) (w : Wrote before b (big_bytes 2 n) after r) where
  number_put : b ≡ at + length xs → b + 2 ≤ length l → after ≡ over l at (xs ++ big_bytes 2 n)
  number_put k h =
      let two : length (big_bytes 2 n) ≡ 2 = big-long 2 n in
      let room : length before ≡ length l = ap length e ∙ over-length l xs at (omega arith) in
      (kept-room w (omega arith)).0
      ∙ ap (λ (x : List ℕ). over x b (big_bytes 2 n)) e
      ∙ over-then l at xs (big_bytes 2 n) b k (omega arith)

module _ (l : List ℕ) (at : ℕ) (f : Fit) (h : at + 8 ≤ length l) (mark : ℕ) (e : mark ≡ flag f.exact) {a b c : List ℕ} {r s t : ℕ} where
  pub fit-put : Wrote (set l at f.step) (at + 1) (big_bytes 2 f.peak) a r → Wrote a (at + 3) (big_bytes 2 f.runner_up) b s
      → Wrote (set b (at + 5) mark) (at + 6) (big_bytes 2 f.tied) c t → c ≡ over l at (fit_report f)
  unfolding fit_report big_bytes
  fit-put w v u =
      let one : List ℕ = f.step ∷ [] in
      let three : List ℕ = one ++ big_bytes 2 f.peak in
      let five : List ℕ = three ++ big_bytes 2 f.runner_up in
      let peak : a ≡ over l at three = number_put l at one (at + 1) f.peak (over-one l at f.step (omega arith)) w (omega arith) (omega arith) in
      let runner : b ≡ over l at five = number_put l at three (at + 3) f.runner_up peak v (omega arith) (omega arith) in
      let exact : set b (at + 5) mark ≡ over l at (five ++ (mark ∷ [])) =
      ap (λ (x : List ℕ). set x (at + 5) mark) runner ∙ over-push l at five (at + 5) mark (omega arith) (omega arith) in
      number_put l at (five ++ (mark ∷ [])) (at + 6) f.tied exact u (omega arith) (omega arith)
      ∙ ap (λ (m : ℕ). over l at (five ++ (m ∷ big_bytes 2 f.tied))) e

-- the fits, one behind the other
pub fits_more : (l : List ℕ) (at : ℕ) (fits : List Fit) (n : ℕ) → at + 8 * (n + 1) ≤ length l
    → over (over l at (fit_reports fits n)) (at + 8 * n) (fit_report (entry fits n)) ≡ over l at (fit_reports fits (n + 1))
fits_more l at fits n h = pieces_more (λ s. fit_report (entry fits s)) 8 (λ s. fit_length (entry fits s)) l at n h

-- all that stands behind the page number of an accepted page
module _ (d : Decoding) where
  eight-length : length (fit_reports d.fits 8) ≡ 64
  eight-length = joined_length (λ s. fit_report (entry d.fits s)) 8 (λ s. fit_length (entry d.fits s)) 8

  pub accepted-length : length (accepted_bytes d) ≡ 68
  unfolding accepted_bytes
  accepted-length =
      simp length-append (omega (arith, eight-length))

  pub accepted-put : (l : List ℕ) (source confidence warnings : ℕ) → report_most ≤ length l
      → source ≡ source_number d.choice.source → confidence ≡ confidence_number d.choice.confidence → warnings ≡ d.warnings.len % 256
      → set (over (set (set (set l 9 source) 10 confidence) 11 d.choice.bv) 12 (fit_reports d.fits 8)) 76 warnings ≡ over l 9 (accepted_bytes d)
  unfolding accepted_bytes
  accepted-put l source confidence warnings h e f g =
      let fs : List ℕ = fit_reports d.fits 8 in
      let head : List ℕ = source ∷ confidence ∷ d.choice.bv ∷ [] in
      let nf : length fs ≡ 64 = eight-length in
      let n : length (head ++ fs) ≡ 67 = length-append head fs ∙ omega arith in
      ap (λ (x : List ℕ). set (over (set (set x 10 confidence) 11 d.choice.bv) 12 fs) 76 warnings) (over-one l 9 source (omega arith))
      ∙ ap (λ (x : List ℕ). set (over (set x 11 d.choice.bv) 12 fs) 76 warnings) (over-push l 9 (source ∷ []) 10 confidence (omega arith) (omega arith))
      ∙ ap (λ (x : List ℕ). set (over x 12 fs) 76 warnings) (over-push l 9 (source ∷ confidence ∷ []) 11 d.choice.bv (omega arith) (omega arith))
      ∙ ap (λ (x : List ℕ). set x 76 warnings) (over-then l 9 head fs 12 (omega arith) (omega arith))
      ∙ over-push l 9 (head ++ fs) 76 warnings (omega arith) (omega arith)
      ∙ rw (e, f, g)

-- the answer and the page number
pub head-put : (l : List ℕ) (answer number : ℕ) {after : List ℕ} {r : ℕ} → report_most ≤ length l
    → Wrote (set l 0 answer) 1 (big_bytes 8 number) after r → after ≡ over l 0 (answer ∷ big_bytes 8 number)
head-put l answer number h w =
    let n : length (set l 0 answer) ≡ length l = length-set l 0 answer in
    (kept-room w (omega (arith, big-long 8 number))).0
    ∙ ap (λ (x : List ℕ). over x 1 (big_bytes 8 number)) (over-one l 0 answer (omega arith))
    ∙ over-then l 0 (answer ∷ []) (big_bytes 8 number) 1 (omega arith) (omega (arith, big-long 8 number))

module _ (number : ℕ) (l : List ℕ) where
  pub report-accepted : (d : Decoding) {head after : List ℕ} → report_most ≤ length l → head ≡ over l 0 (0 ∷ big_bytes 8 number) → after ≡ over head 9 (accepted_bytes d)
      → (report_most ≡ reported_number number (Ok d) l) × (after ≡ reported_into number (Ok d) l)
  unfolding reported_number reported_into report_bytes
  report-accepted d h e f = (
    rw (le-leb report_most (length l) h) (ap suc (sym (length-append (big_bytes 8 number) (accepted_bytes d) ∙ omega (arith, big-long 8 number, accepted-length d)))),
    rw (le-leb report_most (length l) h)
        (f ∙ ap (λ (x : List ℕ). over x 9 (accepted_bytes d)) e
        ∙ over-then l 0 (0 ∷ big_bytes 8 number) (accepted_bytes d) 9 (omega (arith, big-long 8 number)) (omega (arith, big-long 8 number, accepted-length d))),
  )

  pub report-refused : (e : Refused) (answer : ℕ) {after : List ℕ} → report_most ≤ length l → answer ≡ refusal_number e.refusal → after ≡ over l 0 (answer ∷ big_bytes 8 number)
      → (9 ≡ reported_number number (Err e) l) × (after ≡ reported_into number (Err e) l)
  unfolding reported_number reported_into report_bytes
  report-refused e answer h k f = (
    rw (le-leb report_most (length l) h) (ap suc (sym (length-append (big_bytes 8 number) [] ∙ omega (arith, big-long 8 number)))),
    rw (le-leb report_most (length l) h, ← k) (f ∙ ap (λ (x : List ℕ). over l 0 (answer ∷ x)) (sym (append-nil (big_bytes 8 number)))),
  )

module _ (found : Result Decoding Refused) (number : ℕ) where
  pub report-short : (l : List ℕ) → length l < report_most → (0 ≡ reported_number number found l) × (l ≡ reported_into number found l)
  unfolding reported_number reported_into
  report-short l h = (rw (lt-leb report_most (length l) h), rw (lt-leb report_most (length l) h))

  pub report-fits : length (report_bytes number found) ≤ report_most
  unfolding report_bytes
  report-fits = told-fits found
    where
      told-fits : (r : Result Decoding Refused) → length (number_of (refused_answer r) ∷ (big_bytes 8 number ++ told_bytes r)) ≤ report_most
      told-fits (Ok d) = omega (arith, length-append (big_bytes 8 number) (accepted_bytes d), big-long 8 number, accepted-length d)
      told-fits (Err e) = omega (arith, length-append (big_bytes 8 number) [], big-long 8 number)

  -- what stands in a buffer of that many places after `put_report`
  module _ (l : List ℕ) (h : report_most ≡ length l) (n : ℕ) (e : n ≡ reported_number number found l) where
    pub report-number : n ≡ length (report_bytes number found)
    unfolding reported_number
    report-number = e ∙ rw (le-leb report_most (length l) (omega arith))

    pub report-within : n ≤ report_most
    report-within = omega (arith, report-number, report-fits)

    pub report-taken : (filled : List ℕ) → filled ≡ reported_into number found l → take n filled ≡ report_bytes number found
    unfolding reported_into
    report-taken filled f =
        let k : n ≡ length (report_bytes number found) = report-number in
        let g : filled ≡ over l 0 (report_bytes number found) = f ∙ rw (le-leb report_most (length l) (omega arith)) in
        ap₂ (λ (i : ℕ) (w : List ℕ). take i w) k g
        ∙ front-take l (report_bytes number found) (length (report_bytes number found)) (omega arith)
        ∙ take_all (length (report_bytes number found)) (report_bytes number found) (omega arith)
