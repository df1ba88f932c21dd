use Rattle.fk_wire.specs.Opcodes.{latest_minor}
use Rattle.fk_wire.specs.declared.opcode.Opcode.TheVariants as op
use Rattle.fk_drive_frames.proofs.Heads.{no_head}
use Rattle.fk_drive_frames.proofs.aside.opendir_head_in.Goals as goal

pub returns-in_default-clause-none : goal.returns-in_default-clause-none
returns-in_default-clause-none c own =
    let fault = c.in_default.ensures.fault latest_minor op.Open in
    absurd (no_head c.args.frame.now c.in_default.field-0 fault.0 fault.1 own.head)
