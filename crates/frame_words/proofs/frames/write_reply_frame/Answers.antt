use Rattle.std.proofs.Common.{◌++◌, inr, refl}
use Rattle.std.specs.Prelude.{codes}
use Rattle.frame_words.specs.Frames.{reply_fault_words}
use Rattle.std.proofs.KnownBytes.{Appends-trans}
use Rattle.fuse_text.proofs.Writes.{OnOk-map}
use Rattle.frame_words.proofs.frames.write_reply_frame.Goals as goal

pub returns-in_ok-write_bad_reply_head-in-Err : goal.returns-in_ok-write_bad_reply_head-in-Err
returns-in_ok-write_bad_reply_head-in-Err g c =
    let now = g.W.Write.contents in
    let head = c.in_ok-write_bad_reply_head-in-Err.ensures in
    let text = codes ": " ++ reply_fault_words c.in-Err.fault in
    OnOk-map _ _ c.write_reply_fault.result (λ wrote. (
      head.0 ++ text,
      inr
          (c.in-Err.fault, c.in-Err.ensures.fault, head.0, head.1, refl),
      Appends-trans (now c.args.out.now) (now c.write_bad_reply_head.new.out) (now c.write_reply_fault.new.out) head.0
          text head.2 wrote,
    )) c.write_reply_fault.ensures
