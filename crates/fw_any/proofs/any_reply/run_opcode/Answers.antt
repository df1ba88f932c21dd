use Rattle.std.proofs.Common.{ap}
use Rattle.std.specs.Prelude.{Err}
use Rattle.fuse_protocol.specs.Agreement.{before_init}
use Rattle.frame_words.specs.Frames.{IsReplyText}
use Rattle.fw_any.proofs.Statuses.{hex_ends}
use Rattle.fw_any.proofs.any_reply.run_opcode.Goals as goal

pub returns-in-Err : goal.returns-in-Err
returns-in-Err g c = rw c.report_hex.ensures (hex_ends g.W.Write.contents (IsReplyText before_init c.args.opcode c.args.asked)
    c.args.text.now c.args.out.now c.in-Err.fault
    (λ is frame fits spells. c.in-Err.ensures.bad (ap Err is) frame fits (rw c.as_bytes.ensures.value spells)))
