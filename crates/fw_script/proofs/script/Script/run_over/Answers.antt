use Rattle.std.proofs.Common.{arith, refl}
use Rattle.fw_script.specs.Scripts.{IsRunOver}
use Rattle.fuse_text.specs.Lines.{lines_of}
use Rattle.fw_script.proofs.Ending.{session_never_1}
use Rattle.fuse_text.proofs.Statuses.{status_of_running}
use Rattle.fw_script.proofs.script.Script.run_over.Goals as goal

pub returns-in-Ok-true-clause-statuses : goal.returns-in-Ok-true-clause-statuses
returns-in-Ok-true-clause-statuses g c = (2, omega arith, refl)

pub returns-in-Err-clause-statuses : goal.returns-in-Err-clause-statuses
returns-in-Err-clause-statuses g c =
    rw c.report.ensures.status
    (status_of_running c.in-Err.stop
    (session_never_1 (IsRunOver g.row.A.Denot g.L.Link.carries g.L.Link.failed c.args.link c.args.hex)
    (lines_of c.as_slice.result.now) c.in-Err.stop (g.W.Write.contents c.args.out.now)
    (g.W.Write.contents c.run_text.new.out) c.in-Err.ensures))
