use Rattle.fk_wire.specs.Opcodes.{latest_minor}
use Rattle.fs_server.specs.Faults.{IsAnswerable}
use Rattle.fs_server.proofs.Faulty.{no_header}
use Rattle.fs_server.proofs.server.ServerOf.fault_reply.Goals as goal

pub returns-in_default : goal.returns-in_default
returns-in_default g c =
    let fault = c.in_default.ensures.fault latest_minor in
    λ (a : IsAnswerable c.args.frame.now c.args.fault). no_header c.args.frame.now c.in_default.field-0 fault.0 fault.1 a.header
