use Rattle.std.proofs.Common.{[], refl, sym}
use Rattle.fk_wire.specs.Opcodes.{latest_minor}
use Rattle.fk_wire.specs.declared.opcode.Opcode.TheVariants as op
use Rattle.fk_kernel.proofs.Heads.{has_head, no_head}
use Rattle.fk_drive.specs.Driving.{releases_none}
use Rattle.fk_drive.proofs.releasing.release_behind.Goals as goal

pub returns-in-Ok-clause-releases : goal.returns-in-Ok-clause-releases
returns-in-Ok-clause-releases g c =
    let is = c.in-Ok.ensures.ok in
    c.release_directory.ensures.releases c.args.frame.now (has_head c.args.frame.now c.in-Ok.head.error is.0 is.1 is.2) (sym is.3)

pub returns-in-Err-clause-releases : goal.returns-in-Err-clause-releases
returns-in-Err-clause-releases g c =
    let fault = c.in-Err.ensures.fault latest_minor op.Getattr in (
      [],
      g.met.D.Device.stays c.args.device.now,
      refl,
      releases_none (λ has low. absurd (no_head c.args.frame.now c.in-Err.field-0 fault.0 fault.1 has)),
    )
