use Rattle.std.proofs.Common.{inl, inr}
use Rattle.std.proofs.KnownBytes.{Appends-kept}
use Rattle.fuse_text.proofs.Writes.{OnOk-always}
use Rattle.fw_frames.proofs.reply.print_frame.Goals as goal

pub returns : goal.returns
returns g c =
    OnOk-always _ c.flush.result
    (elim c.in_ok-write_frame.ensures [
      | inl request ↦ inl (
        request.0,
        request.1,
        Appends-kept _
            (g.W.Write.contents c.write_frame.new.out) _ _ request.2 c.flush.ensures.bytes,
      )
      | inr fault ↦ inr (
        fault.0,
        fault.1,
        Appends-kept _
            (g.W.Write.contents c.write_frame.new.out) _ _ fault.2 c.flush.ensures.bytes,
      )
    ])
