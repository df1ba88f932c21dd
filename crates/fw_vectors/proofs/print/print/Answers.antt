use Rattle.fuse_text.proofs.Writes.{OnOk-always}
use Rattle.fw_vectors.proofs.Printed.{prints_kept}
use Rattle.fw_vectors.proofs.print.print.Goals as goal

pub returns : goal.returns
returns g c =
    let now = g.W.Write.contents in
    OnOk-always _ c.flush.result (prints_kept (now c.args.out.now) (now c.write_lines.new.out) (now c.flush.new.self)
    c.in_ok-write_lines.ensures c.flush.ensures.bytes)
