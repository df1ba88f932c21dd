use Rattle.std.proofs.Common.{refl}
use Rattle.fuse_capture.proofs.FrameLaws.{frame_reads, frame_fault}
use Rattle.fuse_capture.proofs.frame.read_frame.Goals as goal

pub returns-in-Ok : goal.returns-in-Ok
returns-in-Ok c = frame_reads _ _ _ _ _ refl c.take_marked-time.ensures.taken c.take_marked-time.ensures.small c.in-Ok.ensures

pub returns-in-Err : goal.returns-in-Err
returns-in-Err c =
    frame_fault _ _ _ c.in-Err.fault c.take_marked-time.ensures.taken
    c.take_marked-time.ensures.small c.in-Err.ensures
