use Rattle.std.proofs.Common.{refl}
use Rattle.fuse_spec.specs.Kernel.Messages.{release}
use Rattle.fuse_frames.proofs.request_frame.RequestFrame.release.Goals as goal

pub framed-requires : goal.framed-requires
framed-requires g c = (release c.args.opened, refl, refl)
