use Rattle.std.proofs.Common.{◌++◌}
use Rattle.std.specs.Prelude.{codes}
use Rattle.std.proofs.KnownBytes.{Appends-kept}
use Rattle.fuse_text.proofs.Writes.{OnOk-always}
use Rattle.fw_any.proofs.any_frame.print_line.Goals as goal

pub returns : goal.returns
returns g c =
    let now = g.W.Write.contents in
    let said = c.in_ok-write_line.ensures in
    OnOk-always _ c.flush.result (
      said.0,
      said.1,
      Appends-kept (now c.args.out.now) (now c.write_line.new.out) (now c.flush.new.self) (said.0 ++ codes "\n") said.2
          c.flush.ensures.bytes,
    )
