use Rattle.fk_wire.specs.Opcodes.{latest_minor}
use Rattle.fk_wire.specs.Replies.{headed}
use Rattle.fk_wire.proofs.OneReply.{reply_only}
use Rattle.fk_wire.proofs.reading_reply.read_reply_body.Goals as goal

pub returns-clause-only : goal.returns-clause-only
returns-clause-only c =
    reply_only (headed c.args.head) latest_minor c.args.opcode c.args.bytes.now c.body_after.result
    (rw c.served_minor.ensures at c.body_after.ensures.ok) (rw c.served_minor.ensures at c.body_after.ensures.fault)
