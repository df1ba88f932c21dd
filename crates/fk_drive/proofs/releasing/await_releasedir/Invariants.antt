use Rattle.std.proofs.Common.{None}
use Rattle.fuse_spec.specs.Kernel.Kernel.{Kernel}
use Rattle.fk_drive.specs.Driven.{driven}
use Rattle.fk_drive.specs.Driving.{Runs, releasing}
use Rattle.fk_drive.specs.Exchanges.{Ends, WentOver}
use Rattle.fk_drive.specs.Notings.{HasNoted}
use Rattle.fk_drive.specs.Releasing.{ReleaseStep}
use Rattle.fk_drive.proofs.releasing.await_releasedir.Given as goal

-- no reply to RELEASEDIR came yet
abbrev pub invariant-loop-frame : goal.invariant-loop-frame
invariant-loop-frame g l =
    ((kernel : Kernel) → WentOver g.D.Device.logs l.initial.device l.device (Ends None)
    (λ log. Runs ReleaseStep (driven kernel l.initial.connection (releasing l.own)) log
    (driven kernel l.connection (releasing l.own))))
    × HasNoted g.N.Notes.notes l.initial.notes l.notes l.initial.out l.out
