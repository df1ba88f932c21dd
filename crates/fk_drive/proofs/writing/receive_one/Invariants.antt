use Rattle.std.proofs.Common.{None}
use Rattle.fuse_spec.specs.Kernel.Kernel.{Kernel}
use Rattle.fk_drive.specs.Driven.{driven}
use Rattle.fk_drive.specs.Driving.{Runs, Turn}
use Rattle.fk_drive.specs.Exchanges.{Ends, WentOver}
use Rattle.fk_drive.specs.Notings.{HasNoted}
use Rattle.fk_drive.specs.Steps.{ReceiveStep}
use Rattle.fk_drive.proofs.writing.receive_one.Given as goal

-- the frames so far were received
abbrev pub invariant-loop-frame : goal.invariant-loop-frame
invariant-loop-frame g l =
    ((kernel : Kernel) (turn : Turn) → WentOver g.D.Device.logs l.initial.device l.device (Ends None)
    (λ log. Runs ReceiveStep (driven kernel l.initial.connection turn) log (driven kernel l.connection turn)))
    × HasNoted g.N.Notes.notes l.initial.notes l.notes l.initial.out l.out
