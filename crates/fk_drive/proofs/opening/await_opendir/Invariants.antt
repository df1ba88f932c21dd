use Rattle.std.proofs.Common.{◌≡◌, None}
use Rattle.fuse_spec.specs.Kernel.Kernel.{Kernel}
use Rattle.fuse_spec.specs.Kernel.Messages.{Request}
use Rattle.fk_drive_frames.specs.declared.filling.FreeFields.{FreeFields}
use Rattle.fk_drive.specs.Driven.{driven}
use Rattle.fk_drive.specs.Driving.{Runs, opening}
use Rattle.fk_drive.specs.Exchanges.{Ends, WentOver}
use Rattle.fk_drive.specs.Notings.{HasNoted}
use Rattle.fk_drive.specs.Steps.{SendStep}
use Rattle.fk_drive.proofs.opening.await_opendir.Given as goal

-- no reply to OPENDIR came yet
abbrev pub invariant-loop-frame : goal.invariant-loop-frame
invariant-loop-frame g l =
    ((free_fields : FreeFields) (kernel : Kernel) (request : Request) → request.unique ≡ l.listing.unique
    → WentOver g.D.Device.logs l.initial.device l.device (Ends None)
    (λ log. Runs (SendStep free_fields) (driven kernel l.initial.connection (opening request l.own l.listing.node)) log
    (driven kernel l.connection (opening request l.own l.listing.node))))
    × HasNoted g.N.Notes.notes l.initial.notes l.notes l.initial.out l.out
