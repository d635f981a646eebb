-- DEMAND 1 for the program, proved. Assumes nothing.
use Prim.Native.Nat.{ℕ, ◌+◌, ◌≤◌}
use mathlib.Core.Path.{◌≡◌, refl, sym, ap, ◌∙◌}
use mathlib.Core.Bool.{Bool, true, false}
use mathlib.Core.List.{List, [], ◌∷◌, ◌++◌, append-nil}
use native.Mathlib.Omega.{arith}
use lib.ListN.{length, take, drop, length-drop}
use lib.Seq.{length-take-le}
use Rattle.std.specs.Prelude.{Some, Result, Ok, Err}
use Rattle.lists.specs.Cases.{pick}
use Rattle.lists.proofs.Over.{over-here, over-after}
use Rattle.lists.proofs.Picks.{pick-case, never_both}
use Rattle.numbers.specs.Numbers.{big_bytes}
use Rattle.answers.specs.Answers.{Answer, number_of, is_accepted}
use Rattle.answers.specs.declared.kinds.Refusal.TheVariants.{MalformedLine}
use Rattle.summary.specs.Page.{fits_of, bytes_of}
use Rattle.summary.proofs.Sectors.{summary-length}
use Rattle.choice.specs.declared.Refused.{Refused}
use Rattle.choice.specs.Rules.{refused_answer}
use Rattle.verdict.specs.declared.Decoding.{Decoding}
use Rattle.digits.specs.Digits.{spelled}
use Rattle.frame.specs.Frames.{head_size, is_frame, anchor_count}
use Rattle.frame.proofs.Frames.{frame-bytes}
use Rattle.reply.specs.Report.{reply_most, report_bytes, told_bytes, line_of}
use Rattle.reply.specs.Reply.{frame_report, malformed, reply_of, replied_into, replied_number}
use Rattle.reply.proofs.Replies.{reply-length, reply-short, reply-room}
use Rattle.demands.specs.Told.{values_at, OneOf}
use Rattle.demands.specs.Replies.{number_in, page_in, limit_in, decoding_in, answer_to, frame_lines, rest_of, LinesAnswered}
use Rattle.demands.proofs.AnswerLines.{Gives}
use Rattle.demands.proofs.Demand1.{decoding-gives}

module _ (line : List ℕ) where
  pub page-whole : is_frame line ≡ true → length (page_in line) ≡ 4096
  page-whole e =
      let n : ℕ = head_size + anchor_count line in
      length-take-le 4096 (drop n (spelled line)) (omega (arith, length-drop n (spelled line), frame-bytes line e))

  frame-gives : is_frame line ≡ true → Gives (frame_lines (limit_in line) (number_in line) (page_in line)) (decoding_in line)
  unfolding decoding_in values_at
  frame-gives e =
      let page : length (page_in line) ≡ 4096 = page-whole e in
      let long : length (bytes_of (number_in line) (page_in line)) ≡ 4080 = summary-length (number_in line) (page_in line) page in
      decoding-gives (number_in line) (page_in line) (fits_of (number_in line) (page_in line)) (bytes_of (number_in line) (page_in line)) _ _ 4096
      (frame_lines (limit_in line) (number_in line) (page_in line)) refl (λ n. absurd (n page)) (λ n. absurd (n refl long)) refl refl refl refl refl
      (λ f. refl)

  answer-one : OneOf (frame_lines (limit_in line) (number_in line) (page_in line)) (answer_to line)
  unfolding answer_to values_at
  answer-one =
      pick-case (OneOf (frame_lines (limit_in line) (number_in line) (page_in line))) (is_frame line) (refused_answer (decoding_in line)) (Some MalformedLine)
      (λ e. record { is = (frame-gives e).is }) (λ e. record { is = refl })

  abbrev given : Bool → Answer
  given b = pick b (refused_answer (decoding_in line)) (Some MalformedLine)

  reply-is : reply_of line ≡ line_of (number_of (answer_to line) ∷ rest_of line)
  unfolding reply_of frame_report report_bytes decoding_in answer_to rest_of
  reply-is = go (is_frame line)
    where
      go :
          (b : Bool)
          → line_of (pick b (frame_report (spelled line) (anchor_count line)) malformed)
          ≡ line_of (number_of (given b) ∷ pick b (big_bytes 8 (number_in line) ++ told_bytes (decoding_in line)) [])
      go true = refl
      go false = refl

  rest-refused : is_accepted (answer_to line) ≡ false → rest_of line ≡ pick (is_frame line) (big_bytes 8 (number_in line)) []
  unfolding answer_to rest_of
  rest-refused e = go (is_frame line) (decoding_in line) e
    where
      go :
          (b : Bool) (r : Result Decoding Refused)
          → is_accepted (pick b (refused_answer r) (Some MalformedLine)) ≡ false
          → pick b (big_bytes 8 (number_in line) ++ told_bytes r) [] ≡ pick b (big_bytes 8 (number_in line)) []
      go true (Ok d) q = absurd (never_both q refl)
      go true (Err x) q = append-nil (big_bytes 8 (number_in line))
      go false r q = refl

  reply-kept :
      (out : List ℕ)
      → reply_most ≤ length out
      → (replied_number line out ≡ length (reply_of line))
      × (take (length (reply_of line)) (replied_into line out) ≡ reply_of line)
      × (drop (length (reply_of line)) (replied_into line out) ≡ drop (length (reply_of line)) out)
  reply-kept out h =
      let r = reply-room line out h in
      let fits : 0 + length (reply_of line) ≤ length out = omega (arith, reply-length line) in (
        r.0,
        ap (take (length (reply_of line))) r.1 ∙ over-here out (reply_of line) 0 fits,
        ap (drop (length (reply_of line))) r.1 ∙ over-after out (reply_of line) 0 fits (length (reply_of line)) (omega arith),
      )

pub lines-answered : LinesAnswered
lines-answered =
    record {
      answer = answer-one;
      reply = reply-is;
      refused = rest-refused;
      short = λ line out h. let s = reply-short line out h in (sym s.0, sym s.1);
      room = reply-kept;
    }
