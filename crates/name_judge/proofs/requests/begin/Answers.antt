use Rattle.fuse_protocol.specs.Requests.{request_message}
use Rattle.name_judge.proofs.RequestLaws.{begun, begun_again}
use Rattle.name_judge.proofs.requests.begin.Goals as goal

pub returns-then-unique-ge-RESEND_BIT-clause-right : goal.returns-then-unique-ge-RESEND_BIT-clause-right
returns-then-unique-ge-RESEND_BIT-clause-right g c = λ s are.
    begun_again s c.end-before.new.self c.args.request.now.head.opcode (request_message c.args.request.now)
    c.if-unique-ge-RESEND_BIT.true (c.end-before.ensures.right s are)

pub returns-clause-right : goal.returns-clause-right
returns-clause-right g c = λ s are.
    begun s c.args.tables.now c.args.request.now.head.opcode (request_message c.args.request.now)
    c.if-unique-ge-RESEND_BIT.false are
