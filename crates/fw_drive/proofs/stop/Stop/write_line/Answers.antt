use Rattle.std.proofs.Common.{subst, sym}
use Rattle.std.specs.Prelude.{OnErr, OnOk}
use Rattle.std.specs.Io.KnownBytes.{Appends}
use Rattle.fuse_text.specs.Outputs.{AppendsSome}
use Rattle.fw_drive.specs.Printed.{stop_line}
use Rattle.fw_drive.specs.declared.stop.Stop.{Stop}
use Rattle.fw_drive.proofs.stop.Stop.write_line.Goals as goal

pub returns-in-DeviceFailed-clause-refused : goal.returns-in-DeviceFailed-clause-refused
returns-in-DeviceFailed-clause-refused g c =
    subst (λ (x : Stop). OnErr c.write_text-in-DeviceFailed.result (AppendsSome (g.W.Write.contents c.args.out.now)
    (g.W.Write.contents c.write_text-in-DeviceFailed.new.out) (stop_line g.row.A.Denot c.args.waits x))) (sym c.in-DeviceFailed.is) c.write_text-in-DeviceFailed.ensures.refused

pub returns-in-TooMany-clause-ok : goal.returns-in-TooMany-clause-ok
returns-in-TooMany-clause-ok g c =
    subst (λ (x : Stop). OnOk c.write_text-in-TooMany.result (Appends (g.W.Write.contents c.args.out.now)
    (g.W.Write.contents c.write_text-in-TooMany.new.out) (stop_line g.row.A.Denot c.args.waits x))) (sym c.in-TooMany.is) c.write_text-in-TooMany.ensures.ok

pub returns-in-TooMany-clause-refused : goal.returns-in-TooMany-clause-refused
returns-in-TooMany-clause-refused g c =
    subst (λ (x : Stop). OnErr c.write_text-in-TooMany.result (AppendsSome (g.W.Write.contents c.args.out.now)
    (g.W.Write.contents c.write_text-in-TooMany.new.out) (stop_line g.row.A.Denot c.args.waits x))) (sym c.in-TooMany.is) c.write_text-in-TooMany.ensures.refused
