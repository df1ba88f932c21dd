use Rattle.std.proofs.Common.{refl, bit_and}
use Rattle.fk_wire.specs.Requests.{known_flags}
use Rattle.fuse_spec.specs.Kernel.Messages.{init}
use Rattle.fuse_frames.proofs.request_frame.RequestFrame.init.Goals as goal

pub framed-requires : goal.framed-requires
framed-requires g c = (init (bit_and c.union-flags.result.0 known_flags), refl, refl)
