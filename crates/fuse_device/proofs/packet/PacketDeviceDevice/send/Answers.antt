use Rattle.fuse_device.proofs.Moving.{packet_sent, packet_unsent}
use Rattle.fuse_device.proofs.packet.PacketDeviceDevice.send.Goals as goal

pub returns-clause-result : goal.returns-clause-result
returns-clause-result g c =
    let device = c.args.self.now in
    packet_sent g.R.Read.remaining g.W.Write.contents g.R.ReadOnce.gives g.W.WriteOnce.takes device.times_out
    c.args.frame.now device.reader device.writer c.write_packet.new.out c.write_packet.result
    c.write_packet.ensures.result c.write_packet.ensures.said

pub returns-clause-end : goal.returns-clause-end
returns-clause-end g c =
    let device = c.args.self.now in
    packet_unsent g.R.Read.remaining g.W.Write.contents g.R.ReadOnce.gives g.W.WriteOnce.takes device.times_out
    c.args.frame.now device.reader device.writer c.write_packet.new.out c.write_packet.result
    c.write_packet.ensures.end c.write_packet.ensures.said
