use Rattle.fk_wire.specs.Replies.{WrittenReply, reply_message}
use Rattle.fuse_frames.proofs.RequestLemmas.{all_written}
use Rattle.fuse_frames.proofs.ReplyLemmas.{one_framed, is_framed}
use Rattle.fuse_frames.proofs.reply_frame.ReplyFrame.written.Goals as goal

pub invariant_of-result : goal.invariant_of-result
invariant_of-result g c =
    let w : WrittenReply (reply_message c.args.reply.now) c.write_reply.new.out.items =
    all_written {P = WrittenReply
    (reply_message c.args.reply.now)} c.args.bytes.items c.write_reply.new.out.items c.requires.empty
    (rw c.unwrap.ensures at c.write_reply.ensures.ok) in
    is_framed c.args.opcode c.write_reply.new.out.items
    (reply_message c.args.reply.now) c.requires.goes w c.requires.exact

pub returns : goal.returns
returns g c =
    let w : WrittenReply (reply_message c.args.reply.now) c.write_reply.new.out.items =
    all_written {P = WrittenReply
    (reply_message c.args.reply.now)} c.args.bytes.items c.write_reply.new.out.items c.requires.empty
    (rw c.unwrap.ensures at c.write_reply.ensures.ok) in
    one_framed c.args.opcode c.write_reply.new.out.items (reply_message c.args.reply.now) c.requires.goes w
