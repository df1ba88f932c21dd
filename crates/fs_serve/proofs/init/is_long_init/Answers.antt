use Rattle.fk_wire.specs.Opcodes.{latest_minor}
use Rattle.fs_server.proofs.Faulty.{no_header}
use Rattle.fs_serve.specs.LongInits.{IsLongInit}
use Rattle.std.proofs.Common.{rules}
use Rattle.fs_serve.proofs.init.is_long_init.Goals as goal

pub returns-in-Err : goal.returns-in-Err
returns-in-Err c =
    let fault = c.in-Err.ensures.fault latest_minor in
    (λ no. absurd (search rules), λ (long : IsLongInit c.args.frame.now). absurd (no_header c.args.frame.now c.in-Err.field-0 fault.0 fault.1 long.header))
