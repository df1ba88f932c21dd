use Rattle.std.proofs.Common.{◌≡◌, None, length}
use Rattle.fuse_device.specs.Listed.{frames_received}
use Rattle.fs_serve.specs.Sending.{GoesOver}
use Rattle.fs_serve.specs.Serving.{Serves}
use Rattle.fs_serve.proofs.serving.serve_frames.Given as goal

-- the frames so far are served, as many as were received, and the device hasn't end
abbrev pub invariant-loop-frame : goal.invariant-loop-frame
invariant-loop-frame g l = GoesOver g.D.Device.logs l.initial.device l.device None
    (λ log. Serves l.initial.server log l.server × (length (frames_received log) ≡ l._frame))
