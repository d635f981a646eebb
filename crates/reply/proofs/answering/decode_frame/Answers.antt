-- `decode_frame` meets its contract: the parts that it lends are the frame's.
use Rattle.std.proofs.Common.{◌+◌, ◌-◌, sym, ◌∙◌, arith}
use Rattle.frame.specs.Frames.{head_size}
use Rattle.reply.proofs.Replies.{decoded-parts}
use Rattle.reply.proofs.answering.decode_frame.Goals as goal

pub returns : goal.returns
returns c =
    let a = c.args in
    let n = a.frame.anchors in
    c.decode_page.ensures.0
    ∙ decoded-parts a.frame.number n (head_size + n + 4096 - (head_size + n)) (head_size + n - head_size) _ a.bytes.now _ _ (omega arith) (omega arith) (sym c.page_room-plain.ensures) c.new.ensures
