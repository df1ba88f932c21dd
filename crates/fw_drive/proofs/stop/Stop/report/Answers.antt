use Rattle.std.proofs.Common.{arith}
use Rattle.fuse_text.proofs.Writes.{some_all}
use Rattle.fw_drive.specs.Printed.{stop_line}
use Rattle.fw_drive.proofs.stop.Stop.report.Goals as goal

pub returns-in-3-clause-says : goal.returns-in-3-clause-says
returns-in-3-clause-says g c = (
  λ four. absurd (omega (arith, four, c.no_memory.ensures.status)),
  some_all _ _ (stop_line g.row.A.Denot c.args.waits c.args.self) c.in-Ok.ensures.ok,
)

pub returns-in_default-clause-says : goal.returns-in_default-clause-says
returns-in_default-clause-says g c =
    (λ four. c.in-Ok.ensures.ok, some_all _ _ (stop_line g.row.A.Denot c.args.waits c.args.self) c.in-Ok.ensures.ok)
