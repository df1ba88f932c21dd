use Rattle.std.specs.Prelude.{codes}
use Rattle.std.proofs.KnownBytes.{Appends-trans}
use Rattle.fuse_text.proofs.Writes.{OnOk-map}
use Rattle.fw_any.proofs.any_reply.write_line.Goals as goal

pub returns : goal.returns
returns g c =
    let now = g.W.Write.contents in
    let said = c.in_ok-write_reply_frame.ensures in
    OnOk-map _ _ c.write_all.result (λ wrote. (
      said.0,
      said.1,
      Appends-trans (now c.args.out.now) (now c.write_reply_frame.new.out) (now c.write_all.new.self) said.0 (codes "\n")
          said.2 wrote,
    )) c.write_all.ensures.bytes
