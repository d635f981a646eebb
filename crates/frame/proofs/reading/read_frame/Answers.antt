-- `read_frame` meets its contract: a law for each way out.
use Rattle.std.proofs.Common.{rules, ◌∙◌, length}
use Rattle.frame.proofs.Frames.{frame-short, frame-long, not-read, small, large, bytes_small}
use Rattle.frame.proofs.reading.read_frame.Goals as goal

pub returns-then-bytes-lt-FRAME_MOST : goal.returns-then-bytes-lt-FRAME_MOST
returns-then-bytes-lt-FRAME_MOST c = record { value = small _ _ (search rules); bytes_after = bytes_small _ _ (search rules) }

pub returns-then-line : goal.returns-then-line
returns-then-line c =
    let s = c.args in
    let e = not-read s.line.now s.bytes.now (search rules) (frame-short _ (search rules)) in
    record { value = e.0; bytes_after = e.1 }

pub returns-then-line-2 : goal.returns-then-line-2
returns-then-line-2 c =
    let s = c.args in
    let e = not-read s.line.now s.bytes.now (search rules) (frame-long _ (search rules)) in
    record { value = e.0; bytes_after = e.1 }

pub returns : goal.returns
returns c =
    let s = c.args in
    let r = c.read_digits.ensures in
    record { value = r.value ∙ large s.line.now (length s.bytes.now) (search rules); bytes_after = r.bytes_after }
