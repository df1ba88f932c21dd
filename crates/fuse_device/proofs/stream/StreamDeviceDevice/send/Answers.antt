use Rattle.fuse_device.proofs.Moving.{stream_sent, stream_unsent}
use Rattle.fuse_device.proofs.stream.StreamDeviceDevice.send.Goals as goal

pub returns-in-Ok-clause-result : goal.returns-in-Ok-clause-result
returns-in-Ok-clause-result g c =
    let device = c.args.self.now in
    stream_sent g.R.Read.remaining g.W.Write.contents g.R.ReadOnce.gives g.W.WriteOnce.takes device.cut.times_out
    device.cut.least c.args.frame.now device.reader device.writer c.write_frame.new.out c.in-Ok.ensures.ok

pub returns-in-Err-clause-end : goal.returns-in-Err-clause-end
returns-in-Err-clause-end g c =
    let device = c.args.self.now in
    stream_unsent g.R.Read.remaining g.W.Write.contents g.R.ReadOnce.gives g.W.WriteOnce.takes device.cut.times_out
    device.cut.least c.args.frame.now c.in-Err.end device.reader device.writer c.write_frame.new.out
    c.in-Err.ensures.end c.in-Err.ensures.why
