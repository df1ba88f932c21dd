use Rattle.std.proofs.Common.{◌<◌, ◌≤◌, ℕ, Result, Ok, Err}
use Rattle.std.specs.Prelude.{IfOk}
use Rattle.fuse_device.proofs.Moving.{packet_received, packet_stopped}
use Rattle.fuse_device.proofs.packet.PacketDeviceDevice.receive.Goals as goal

within : {E : Type 0} (r : Result ℕ E) (m : ℕ) → IfOk r (λ n. (0 < n) × (n ≤ m)) → IfOk r (λ n. n ≤ m)
within (Err e) m h = tt
within (Ok n) m (some, less) = less

pub returns-clause-frame : goal.returns-clause-frame
returns-clause-frame g c =
    let device = c.args.self.now in
    packet_received g.R.Read.remaining g.W.Write.contents g.R.ReadOnce.gives g.W.WriteOnce.takes device.times_out
    c.read_some.new.room c.read_some.result device.reader c.read_some.new.from device.writer
    (within c.read_some.result _ c.read_some.ensures.count) c.read_some.ensures.bytes c.read_some.ensures.tried

pub returns-clause-end : goal.returns-clause-end
returns-clause-end g c =
    let device = c.args.self.now in
    packet_stopped g.R.Read.remaining g.W.Write.contents g.R.ReadOnce.gives g.W.WriteOnce.takes device.times_out
    c.read_some.result device.reader c.read_some.new.from device.writer c.read_some.ensures.end c.read_some.ensures.tried
