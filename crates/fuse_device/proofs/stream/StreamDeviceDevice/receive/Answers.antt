use Rattle.std.proofs.Common.{ℕ, List, Option, Result, Ok, Err, take, refl}
use Rattle.std.specs.Prelude.{IfOk}
use Rattle.std.specs.Io.KnownBytes.{Consumes}
use Rattle.fuse_device.specs.Transfers.{received}
use Rattle.fuse_device.specs.Streamed.{IsWholeFrame, ReadsStream}
use Rattle.fuse_device.proofs.Moving.{stream_received, stream_stopped}
use Rattle.fuse_device.proofs.stream.StreamDeviceDevice.receive.Goals as goal

reads : {E : Type 0} (r : Result ℕ E) (least : ℕ) (room : List ℕ) (old new : Option (List ℕ))
    → IfOk r (λ n. IsWholeFrame least (take n room) × Consumes old new (take n room))
    → IfOk r (λ n. ReadsStream least (received (take n room)) (take n room) × Consumes old new (take n room))
reads (Err e) least room old new h = tt
reads (Ok n) least room old new (whole, read) = ((refl, whole), read)

pub returns-clause-frame : goal.returns-clause-frame
returns-clause-frame g c =
    let device = c.args.self.now in
    stream_received g.R.Read.remaining g.W.Write.contents g.R.ReadOnce.gives g.W.WriteOnce.takes device.cut.times_out
    device.cut.least c.read_frame.new.room c.read_frame.result device.reader c.read_frame.new.from device.writer
    (reads c.read_frame.result device.cut.least c.read_frame.new.room (g.R.Read.remaining device.reader)
    (g.R.Read.remaining c.read_frame.new.from) c.read_frame.ensures.frame)

pub returns-clause-end : goal.returns-clause-end
returns-clause-end g c =
    let device = c.args.self.now in
    stream_stopped g.R.Read.remaining g.W.Write.contents g.R.ReadOnce.gives g.W.WriteOnce.takes device.cut.times_out
    device.cut.least c.read_frame.result device.reader c.read_frame.new.from device.writer c.read_frame.ensures.end
    c.read_frame.ensures.why
