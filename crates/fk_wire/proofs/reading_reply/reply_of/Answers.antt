use Rattle.std.proofs.Common.{rules}
use Rattle.fk_wire.proofs.reading_reply.reply_of.Goals as goal

pub returns-in_err-head-clause-fault : goal.returns-in_err-head-clause-fault
returns-in_err-head-clause-fault c =
    let fault = (c.in_err-head.ensures.fault c.args.minor c.args.opcode).0 in
    search rules
