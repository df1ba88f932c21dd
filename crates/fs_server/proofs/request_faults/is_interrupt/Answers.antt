use Rattle.fk_wire.specs.Opcodes.{latest_minor}
use Rattle.fk_wire.proofs.OneRequest.{no_fault}
use Rattle.fs_server.proofs.request_faults.is_interrupt.Goals as goal

pub returns-in_default : goal.returns-in_default
returns-in_default c = λ _ m spells is. no_fault latest_minor c.args.bytes.now m c.in_default.field-0 spells
    (c.in_default.ensures.fault latest_minor).0
