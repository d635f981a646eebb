-- The reply to a line, and to what is kept of it. Assumes nothing.
use Prim.Native.Nat.{ℕ, ◌+◌, ◌≤◌, ◌<◌}
use mathlib.Core.Path.{◌≡◌, sym, ap, ◌∙◌}
use mathlib.Core.Bool.{true, false}
use mathlib.Core.List.{List, [], ◌∷◌}
use Rattle.std.proofs.Common.{Option, Some, None, Result}
use Rattle.answers.specs.Answers.{number_of}
use Rattle.answers.specs.declared.kinds.Refusal.TheVariants.{MalformedLine}
use native.Mathlib.Omega.{arith}
use borrow.Author.Tests.{le-leb, lt-leb, leb-true, leb-false}
use lib.Dec.{leb}
use lib.ListN.{length, take, drop}
use lib.Seq.{take_all, length-take-le}
use Rattle.lists.specs.Pieces.{over}
use Rattle.lists.proofs.Picks.{pick-case}
use Rattle.lists.proofs.Over.{front-part}
use Rattle.answers.specs.Settings.{options_of}
use Rattle.answers.specs.declared.settings.Options.{Options}
use Rattle.summary.specs.Page.{fits_of, bytes_of}
use Rattle.decode.specs.Decode.{decoding_of}
use Rattle.choice.specs.declared.Refused.{Refused}
use Rattle.verdict.specs.declared.Decoding.{Decoding}
use Rattle.lines.specs.Input.{Bounded}
use Rattle.digits.specs.Digits.{spelled}
use Rattle.frame.specs.Frames.{head_size, least_frame, frame_most, line_room, is_frame, anchor_count, page_number, option_bits, least_count, limit_of, anchors_of, stored_of, good_of, frame_of, frame_in, frame_bytes}
use Rattle.frame.specs.declared.reading.Frame.{Frame}
use Rattle.frame.proofs.Frames.{large, frame-long, frame-bytes, frame_small, frame-nothing, frame-good, bytes-yes}
use Rattle.reply.specs.Report.{report_most, reply_most, report_bytes, line_of}
use Rattle.reply.specs.Reply.{frame_decoding, frame_report, malformed, reply_of, replied_into, replied_number}
use Rattle.reply.proofs.Reports.{line-size, report-fits}

frame-report-le : (bytes : List ℕ) (n : ℕ) → length (frame_report bytes n) ≤ report_most
unfolding frame_report
frame-report-le bytes n =
    report-fits (frame_decoding (page_number bytes) (stored_of n bytes) (anchors_of n bytes) (options_of (option_bits bytes) (least_count bytes) (limit_of bytes))) (page_number bytes)

module _ (line : List ℕ) where
  reply-no : is_frame line ≡ false → line_of malformed ≡ reply_of line
  unfolding reply_of
  reply-no e = rw e

  reply-yes : is_frame line ≡ true → line_of (frame_report (spelled line) (anchor_count line)) ≡ reply_of line
  unfolding reply_of
  reply-yes e = rw e

  -- the longest reply has `reply_most` characters, so that none leaves its buffer
  pub reply-length : length (reply_of line) ≤ reply_most
  unfolding reply_of
  reply-length =
      pick-case (λ (x : List ℕ). length (line_of x) ≤ reply_most) (is_frame line) (frame_report (spelled line) (anchor_count line)) malformed
      (λ e. omega (arith, line-size (frame_report (spelled line) (anchor_count line)), frame-report-le (spelled line) (anchor_count line)))
      (λ e. omega (arith, line-size malformed))

  -- a buffer that is too short, and one that is not
  pub reply-short : (out : List ℕ) → length out < reply_most → (0 ≡ replied_number line out) × (out ≡ replied_into line out)
  unfolding replied_number replied_into
  reply-short out h = (rw (lt-leb reply_most (length out) h), rw (lt-leb reply_most (length out) h))

  module _ (out : List ℕ) (h : reply_most ≤ length out) where
    pub reply-room : (replied_number line out ≡ length (reply_of line)) × (replied_into line out ≡ over out 0 (reply_of line))
    unfolding replied_number replied_into
    reply-room = (rw (le-leb reply_most (length out) h), rw (le-leb reply_most (length out) h))

    pub replied : (reply filled : List ℕ) (n : ℕ) → reply ≡ reply_of line → n ≡ length reply → filled ≡ over out 0 reply
        → (n ≡ replied_number line out) × (filled ≡ replied_into line out)
    replied reply filled n e f g = (f ∙ ap length e ∙ sym reply-room.0, g ∙ ap (over out 0) e ∙ sym reply-room.1)

  -- what was read into room for the longest frame
  pub read-whole : (room : List ℕ) {r : Option Frame} → frame_most ≡ length room → r ≡ frame_in (length room) line → r ≡ frame_of line
  read-whole room h e = e ∙ sym (large line (length room) (omega arith))

  -- a line that is no frame, and one that is, from what was read of it
  pub malformed-reply : (r : Option Frame) (n : ℕ) → r ≡ frame_of line → r ≡ None → n ≡ number_of (Some MalformedLine) → line_of (n ∷ []) ≡ reply_of line
  malformed-reply r n e f g = ap (λ (i : ℕ). line_of (i ∷ [])) g ∙ reply-no (frame-nothing line (sym e ∙ f))

  module _ (r : Option Frame) (f : Frame) (e : r ≡ frame_of line) (is : r ≡ Some f) where
    pub good-count : f.anchors < 256
    good-count =
        let w = frame-good line f (sym e ∙ is) in
        omega (arith, ap (λ (x : Frame). x.anchors) w.1, frame_small line w.0)

    pub good-reply : (room bytes : List ℕ) (d : Result Decoding Refused) → frame_most ≤ length room → bytes ≡ frame_bytes line room
        → d ≡ frame_decoding f.number (stored_of f.anchors bytes) (anchors_of f.anchors bytes) (options_of f.options f.t f.limit)
        → line_of (report_bytes f.number d) ≡ reply_of line
    unfolding frame_report
    good-reply room bytes d h g k =
        let w = frame-good line f (sym e ∙ is) in
        let ys : List ℕ = spelled line in
        let n : ℕ = anchor_count line in
        let m : length ys ≡ least_frame + n = frame-bytes line w.0 in
        let all : bytes ≡ over room 0 ys = g ∙ sym (bytes-yes line room h w.0) in
        let stored : stored_of n bytes ≡ stored_of n ys = ap (stored_of n) all ∙ front-part room ys (head_size + n) 4096 (omega arith) in
        let anchors : anchors_of n bytes ≡ anchors_of n ys = ap (anchors_of n) all ∙ front-part room ys head_size n (omega arith) in
        let of : Frame → List ℕ = λ (x : Frame). report_bytes x.number (frame_decoding x.number (stored_of x.anchors bytes) (anchors_of x.anchors bytes) (options_of x.options x.t x.limit)) in
        let same : of (good_of ys n) ≡ frame_report ys n = rw (stored, anchors) in
        ap (λ (x : Result Decoding Refused). line_of (report_bytes f.number x)) k ∙ ap line_of (ap of w.1 ∙ same) ∙ reply-yes w.0

-- What is kept of an over-long line answers as the whole line does: no line longer than the longest frame's is a frame.
pub kept-answers : (k : ℕ) (line : List ℕ) → line_room ≤ k → reply_of (take k line) ≡ reply_of line
kept-answers k line h =
    pick-case (λ (x : ℕ). reply_of (take k line) ≡ reply_of line) (leb (length line) k) 0 0 (λ e. ap reply_of (take_all k line (leb-true _ _ e)))
    (λ e.
    let b : k < length line = leb-false _ _ e in
    let n : length (take k line) ≡ k = length-take-le k line (omega arith) in
    sym (reply-no (take k line) (frame-long (take k line) (omega arith))) ∙ reply-no line (frame-long line (omega arith)))

pub reply-bounded : Bounded line_room reply_most reply_of
reply-bounded = record { some = omega arith; front = λ l. kept-answers line_room l (omega arith); short = reply-length }

-- the parts that are lent to the decoding are the frame's
pub decoded-parts : (number n a b m : ℕ) (bytes : List ℕ) (o o' : Options) → a ≡ 4096 → b ≡ n → m ≡ 4096 → o ≡ o'
    → decoding_of number (take a (drop (head_size + n) bytes)) (fits_of number (take a (drop (head_size + n) bytes))) (bytes_of number (take a (drop (head_size + n) bytes))) (take b (drop head_size bytes)) o m
    ≡ frame_decoding number (stored_of n bytes) (anchors_of n bytes) o'
decoded-parts number n a b m bytes o o' e f g h = rw (e, f, g, h)
