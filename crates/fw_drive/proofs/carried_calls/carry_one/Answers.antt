use Rattle.std.specs.Prelude.{All}
use Rattle.std.proofs.lemmas.List.Elements.{All-append}
use Rattle.fw_drive.specs.LineMoves.{Carries, FirstThen, IsCollected, IsSentBy}
use Rattle.fw_drive.proofs.Following.{failed, given, then}
use Rattle.fw_drive.proofs.LineRuns.{failed_carries, sent_carries}
use Rattle.fw_drive.proofs.carried_calls.carry_one.Goals as goal

pub returns-in-Ok-Ok-Some : goal.returns-in-Ok-Ok-Some
returns-in-Ok-Ok-Some g c =
    then g.row.T-Heap.Denot g.D.Device.logs g.met.D.Device.goes_on c.args.form c.args.device.now c.send.new.device
    c.await_reply.new.device (g.W.Write.contents c.args.out.now, c.args.notes.now.is_wrong) (g.W.Write.contents c.send.new.out, c.send.new.notes.is_wrong)
    (g.W.Write.contents c.await_reply.new.out, c.await_reply.new.notes.is_wrong) c.args.driver.now c.send.new.driver c.await_reply.new.driver _
    c.await_reply.result (FirstThen (IsSentBy c.args.pick) IsCollected) (All Carries) (All Carries) c.in-Ok-Ok-Some.ensures
    c.await_reply.ensures (λ m n first rest. All-append Carries m n (sent_carries c.args.pick c.requires m first) rest)

pub returns-in-Ok : goal.returns-in-Ok
returns-in-Ok g c =
    given g.row.T-Heap.Denot g.D.Device.logs c.args.form c.args.device.now c.send.new.device
    (g.W.Write.contents c.args.out.now, c.args.notes.now.is_wrong) (g.W.Write.contents c.send.new.out, c.send.new.notes.is_wrong) c.args.driver.now c.send.new.driver
    c.in-Ok.sent c.is_sent.result c.is_sent.ensures.own (FirstThen (IsSentBy c.args.pick) IsCollected) (All Carries)
    c.in-Ok.ensures (sent_carries c.args.pick c.requires)

pub returns-in-Err : goal.returns-in-Err
returns-in-Err g c =
    failed g.row.T-Heap.Denot g.D.Device.logs c.args.form c.args.device.now c.send.new.device
    (g.W.Write.contents c.args.out.now, c.args.notes.now.is_wrong) (g.W.Write.contents c.send.new.out, c.send.new.notes.is_wrong) c.args.driver.now c.send.new.driver
    c.in-Err.stop _ (All Carries) c.in-Err.ensures
    (failed_carries (FirstThen (IsSentBy c.args.pick) IsCollected) (sent_carries c.args.pick c.requires))
