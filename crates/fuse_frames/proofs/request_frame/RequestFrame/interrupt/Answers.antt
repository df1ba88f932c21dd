use Rattle.std.proofs.Common.{refl}
use Rattle.fuse_spec.specs.Kernel.Messages.{interrupt}
use Rattle.fuse_frames.proofs.request_frame.RequestFrame.interrupt.Goals as goal

pub framed-requires : goal.framed-requires
framed-requires g c = (interrupt c.args.original, refl, refl)
