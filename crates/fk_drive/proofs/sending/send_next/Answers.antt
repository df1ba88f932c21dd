use Rattle.std.proofs.Common.{[], ap, refl, sym}
use Rattle.std.specs.Prelude.{Ok, Err}
use Rattle.fuse_spec.specs.Kernel.Kernel.{Kernel}
use Rattle.fk_drive.specs.Driven.{driven}
use Rattle.fk_drive.specs.Driving.{idle}
use Rattle.fk_drive.specs.declared.end.NotSent.TheVariants.{Refused, Ended}
use Rattle.fk_drive.proofs.Sent.{over_sent, picked_sends}
use Rattle.fk_drive.proofs.sending.send_next.Goals as goal

pub returns-in-Err-clause-sends : goal.returns-in-Err-clause-sends
returns-in-Err-clause-sends g c = (
  idle,
  [],
  g.met.D.Device.stays c.args.device.now,
  (refl, ap (λ (k : Kernel). driven k c.args.connection.now idle) c.in-Err.ensures.err),
)

pub returns-in-Err-clause-drives : goal.returns-in-Err-clause-drives
returns-in-Err-clause-drives g c =
    over_sent g.D.Device.logs c.args.device.now c.args.device.now (Err (Refused c.in-Err.refusal)) c.args.pick
    c.args.free_fields (driven c.args.kernel.now c.args.connection.now idle) c.read.new.self c.args.connection.now refl
    (returns-in-Err-clause-sends g c)

pub returns-in-Ok-send_read-clause-sends : goal.returns-in-Ok-send_read-clause-sends
returns-in-Ok-send_read-clause-sends g c =
    let (turn, (log, over, ends, runs)) =
    c.in-Ok-send_read.ensures.sends c.in-Ok.frame c.bytes.ensures (sym c.head-unique.ensures.unique) in (
      turn,
      log,
      over,
      (
        picked_sends c.args.pick c.args.free_fields c.in-Ok.frame c.args.kernel.now c.read.new.self c.args.connection.now log
            (driven c.send_read.new.kernel c.send_read.new.connection turn) c.in-Ok.ensures.judged c.in-Ok.ensures.frame
            c.in-Ok.ensures.read runs,
        ends,
      ),
    )

pub returns-in-Ok-send_read-clause-drives : goal.returns-in-Ok-send_read-clause-drives
returns-in-Ok-send_read-clause-drives g c =
    over_sent g.D.Device.logs c.args.device.now c.send_read.new.device (Ok c.in-Ok.frame) c.args.pick
    c.args.free_fields (driven c.args.kernel.now c.args.connection.now idle) c.send_read.new.kernel
    c.send_read.new.connection refl (returns-in-Ok-send_read-clause-sends g c)

pub returns-in-Err-send_read-clause-sends : goal.returns-in-Err-send_read-clause-sends
returns-in-Err-send_read-clause-sends g c =
    let (turn, (log, over, ends, runs)) =
    c.in-Err-send_read.ensures.sends c.in-Ok.frame c.bytes.ensures (sym c.head-unique.ensures.unique) in (
      turn,
      log,
      over,
      (
        c.in-Ok.frame,
        picked_sends c.args.pick c.args.free_fields c.in-Ok.frame c.args.kernel.now c.read.new.self c.args.connection.now log
            (driven c.send_read.new.kernel c.send_read.new.connection turn) c.in-Ok.ensures.judged c.in-Ok.ensures.frame
            c.in-Ok.ensures.read runs,
        ends,
      ),
    )

pub returns-in-Err-send_read-clause-drives : goal.returns-in-Err-send_read-clause-drives
returns-in-Err-send_read-clause-drives g c =
    over_sent g.D.Device.logs c.args.device.now c.send_read.new.device (Err (Ended c.in-Err-send_read.end)) c.args.pick
    c.args.free_fields (driven c.args.kernel.now c.args.connection.now idle) c.send_read.new.kernel
    c.send_read.new.connection refl (returns-in-Err-send_read-clause-sends g c)

pub returns-in-Err-clause-noted : goal.returns-in-Err-clause-noted
returns-in-Err-clause-noted g c = ([], g.met.N.Notes.stays c.args.notes.now c.args.out.now)
