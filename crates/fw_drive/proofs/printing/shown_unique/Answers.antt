use Rattle.std.proofs.Common.{refl}
use Rattle.fk_wire.specs.Opcodes.{latest_minor}
use Rattle.fk_wire.specs.declared.opcode.Opcode.TheVariants as op
use Rattle.fk_drive_frames.proofs.Heads.{no_head}
use Rattle.fw_drive.proofs.printing.shown_unique.Goals as goal

pub returns-in-Err : goal.returns-in-Err
returns-in-Err g =
    let fault = g.in-Err.ensures.fault latest_minor op.Open in
    (λ has. absurd (no_head g.args.frame.now g.in-Err.field-0 fault.0 fault.1 has), λ none. refl)
