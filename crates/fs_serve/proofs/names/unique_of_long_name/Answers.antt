use Rattle.fk_wire.specs.Opcodes.{latest_minor}
use Rattle.fs_server.proofs.Faulty.{no_header}
use Rattle.fs_serve.proofs.names.unique_of_long_name.Goals as goal

pub returns-in-Err : goal.returns-in-Err
returns-in-Err c too_long =
    let fault = c.in-Err.ensures.fault latest_minor in
    no_header c.args.frame.now c.in-Err.field-0 fault.0 fault.1 too_long.header
