use Rattle.fk_wire.specs.Opcodes.{latest_minor}
use Rattle.fk_wire.specs.declared.opcode.Opcode.TheVariants as op
use Rattle.fk_kernel.proofs.Heads.{no_head}
use Rattle.fk_drive.proofs.releasing.is_reply_to.Goals as goal

pub returns-in-Err : goal.returns-in-Err
returns-in-Err c =
    let fault = c.in-Err.ensures.fault latest_minor op.Getattr in
    (λ is. absurd (cc is), λ both. absurd (no_head c.args.frame.now c.in-Err.field-0 fault.0 fault.1 both.0))
