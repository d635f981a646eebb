-- `read_digits` meets its contract: a law for each way out, and the facts of a line of digits.
use borrow.Author.Rules.{rules}
use Prim.Native.Nat.{◌+◌, ◌*◌, ◌<◌}
use mathlib.Core.Path.{◌≡◌, ap, ap₂, ◌∙◌}
use mathlib.Core.Bool.{false}
use native.Mathlib.Omega.{arith}
use lib.ListN.{length}
use Rattle.std.proofs.Common.{Some}
use Rattle.lists.specs.Pieces.{over}
use Rattle.digits.specs.Digits.{worst_of, spelled}
use Rattle.digits.proofs.Values.{values-yes}
use Rattle.frame.specs.Frames.{least_frame, anchor_count, is_frame, good_of}
use Rattle.frame.proofs.Frames.{count-byte, count_of, pairs_of, frame-digits, frame-count, frame-yes, answer-no, answer-yes, bytes-no, bytes-yes}
use Rattle.frame.proofs.reading.read_digits.Goals as goal

pub returns-then-digit_values-ge16 : goal.returns-then-digit_values-ge16
returns-then-digit_values-ge16 c =
    let a = c.args in
    let l = a.line.now in
    let d = c.digit_values in
    let other : is_frame l ≡ false = frame-digits l (omega (arith, d.ensures.value, (values-yes l a.values.now (search rules)).0)) in
    record { value = answer-no l other; bytes_after = bytes-no l a.bytes.now (search rules) other }

pub returns-then-line-n : goal.returns-then-line-n
returns-then-line-n c =
    let a = c.args in
    let l = a.line.now in
    let d = c.digit_values in
    let worst : worst_of l < 16 = omega (arith, d.ensures.value, (values-yes l a.values.now (search rules)).0) in
    let n : c.from-n.result ≡ anchor_count l =
    c.from-n.ensures ∙ c.digit_pair.ensures ∙ count_of l a.values.now d.new.values (search rules) d.ensures.values_after worst (search rules) in
    let other : is_frame l ≡ false = frame-count l (λ q. c.if-line-n.true (omega arith)) in
    record { value = answer-no l other; bytes_after = bytes-no l a.bytes.now (search rules) other }

pub returns : goal.returns
returns c =
    let a = c.args in
    let l = a.line.now in
    let d = c.digit_values in
    let worst : worst_of l < 16 = omega (arith, d.ensures.value, (values-yes l a.values.now (search rules)).0) in
    let n : c.from-n.result ≡ anchor_count l =
    c.from-n.ensures ∙ c.digit_pair.ensures ∙ count_of l a.values.now d.new.values (search rules) d.ensures.values_after worst (search rules) in
    let e : length l ≡ 2 * (least_frame + anchor_count l) = omega arith in
    let small = count-byte l worst (search rules) in
    let written : c.pair_up.new.bytes ≡ over a.bytes.now 0 (spelled l) =
    c.pair_up.ensures ∙ pairs_of l a.values.now d.new.values (search rules) d.ensures.values_after worst (length l) a.bytes.now (omega arith) (omega arith) in
    record {
      value = ap Some (c.fields.ensures ∙ ap₂ good_of written n) ∙ answer-yes l a.bytes.now worst e;
      bytes_after = written ∙ bytes-yes l a.bytes.now (search rules) (frame-yes l worst e);
    }
