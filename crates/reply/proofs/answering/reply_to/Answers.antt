-- `reply_to` meets its contract: a law for each way out.
use borrow.Author.Rules.{rules}
use Rattle.std.proofs.Common.{[], ◌∷◌, arith}
use Rattle.reply.proofs.Replies.{reply-short, replied, read-whole, malformed-reply, good-count, good-reply}
use Rattle.reply.specs.Report.{line_of, report_bytes}
use Rattle.reply.proofs.answering.reply_to.Goals as goal

pub returns-then-out-lt-REPLY_MOST : goal.returns-then-out-lt-REPLY_MOST
returns-then-out-lt-REPLY_MOST c =
    let short = reply-short c.args.line.now c.args.out.now (search rules) in
    record { value = short.0; out_after = short.1 }

pub returns-in_default : goal.returns-in_default
returns-in_default c =
    let l = c.args.line.now in
    let e = read-whole l _ c.frame_room-bytes.ensures c.read_frame.ensures.value in
    let w = c.put_line in
    let done = replied l c.args.out.now (search rules) (line_of (c.number.result ∷ [])) w.new.out w.result (malformed-reply l _ c.number.result e c.in_default.is c.number.ensures) w.ensures.value w.ensures.out_after in
    record { value = done.0; out_after = done.1 }

pub decode_frame-requires : goal.decode_frame-requires
decode_frame-requires c =
    let room = c.frame_room-bytes.ensures in
    omega (arith, room, good-count c.args.line.now _ c.in-Some.frame (read-whole c.args.line.now _ room c.read_frame.ensures.value) c.in-Some.is)

pub returns : goal.returns
returns c =
    let l = c.args.line.now in
    let f = c.read_frame in
    let room = c.frame_room-bytes in
    let e = read-whole l _ room.ensures f.ensures.value in
    let g = c.in-Some.frame in
    let d = c.decode_frame in
    let w = c.put_reply in
    let good = good-reply l _ g e c.in-Some.is room.result f.new.bytes d.result (omega (arith, room.ensures)) f.ensures.bytes_after d.ensures in
    let done = replied l c.args.out.now (search rules) (line_of (report_bytes g.number d.result)) w.new.out w.result good w.ensures.value w.ensures.out_after in
    record { value = done.0; out_after = done.1 }
