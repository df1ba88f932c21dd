use Rattle.std.proofs.KnownBytes.{Appends-kept}
use Rattle.fuse_text.proofs.Writes.{some_all}
use Rattle.fw_drive.specs.Printed.{stop_line}
use Rattle.fw_drive.proofs.stop.Stop.say.Goals as goal

pub returns-in-Err-flush-clause-refused : goal.returns-in-Err-flush-clause-refused
returns-in-Err-flush-clause-refused g c =
    let line = stop_line g.row.A.Denot c.args.waits c.args.self in
    some_all _ _ line
    (Appends-kept (g.W.Write.contents c.args.out.now) (g.W.Write.contents c.write_line.new.out)
    (g.W.Write.contents c.flush.new.self) line c.in-Ok.ensures.ok c.flush.ensures.bytes)
