-- `answer` meets its contract: the reply stands in its part of the output.
use Rattle.std.proofs.Common.{◌-◌, length, take, drop, refl, ◌∙◌, arith, length-drop, length-take}
use Rattle.lines.proofs.Stepping.{replied-lent}
use Rattle.reply.specs.Reply.{reply_of}
use Rattle.reply.proofs.Replies.{reply-length, reply-room}
use Rattle.reporter.proofs.blocks.answer.Goals as goal

pub overflow_add-result : goal.overflow_add-result
overflow_add-result c =
    let a = c.args in
    let n = length a.out.now - a.at in
    let d = drop a.at a.out.now in
    let room = reply-room a.line.now (take n d) (omega (arith, length-take n d, length-drop a.at a.out.now)) in
    omega (arith, c.reply_to-n.ensures.value, room.0, reply-length a.line.now)

pub returns : goal.returns
returns c =
    let a = c.args in
    let n = length a.out.now - a.at in
    let d = drop a.at a.out.now in
    let room = reply-room a.line.now (take n d) (omega (arith, length-take n d, length-drop a.at a.out.now)) in
    let r = c.reply_to-n in
    replied-lent reply_of a.line.now a.out.now a.at n r.new.out _ r.result refl (r.ensures.value ∙ room.0) (r.ensures.out_after ∙ room.1) refl
