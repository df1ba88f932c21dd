use Rattle.std.proofs.Common.{inr, refl}
use Rattle.fuse_protocol.specs.declared.opcode.Opcode.TheVariants as op
use Rattle.fuse_protocol.specs.Requests.{request_message}
use Rattle.fuse_protocol.proofs.init.read_init.Goals as goal

pub returns-in-Err-clause-only : goal.returns-in-Err-clause-only
returns-in-Err-clause-only c is = absurd (c.in-Err.ensures.only op.Init is.0 is.1)

pub returns-in_default-clause-only : goal.returns-in_default-clause-only
returns-in_default-clause-only c is = absurd (c.in_default.not-Init (c.in-Ok.ensures.only op.Init is.0 is.1).0)

pub returns-in_default-clause-fault : goal.returns-in_default-clause-fault
returns-in_default-clause-fault c = inr
    ((c.in-Ok.request.head.opcode, c.in_default.not-Init, request_message c.in-Ok.request, c.in-Ok.ensures.ok), refl)
