use Rattle.std.proofs.Common.{refl}
use Rattle.fuse_spec.specs.Kernel.Messages.{forget}
use Rattle.fuse_frames.proofs.request_frame.RequestFrame.forget.Goals as goal

pub framed-requires : goal.framed-requires
framed-requires g c = (forget (c.args.node, c.args.count), refl, refl)
