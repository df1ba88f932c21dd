use Rattle.std.specs.Prelude.{All}
use Rattle.fw_drive.specs.LineMoves.{Carries, FirstThen, IsCollected, IsWritten}
use Rattle.fw_drive.proofs.Following.{failed, given}
use Rattle.fw_drive.proofs.LineRuns.{failed_carries, written_carries}
use Rattle.fw_drive.proofs.carried_calls.receive_toward.Goals as goal

pub returns-in-Ok : goal.returns-in-Ok
returns-in-Ok g c =
    given g.row.T-Heap.Denot g.D.Device.logs c.args.form c.args.device.now c.receive.new.device
    (g.W.Write.contents c.args.out.now, c.args.notes.now.is_wrong) (g.W.Write.contents c.receive.new.out, c.receive.new.notes.is_wrong) c.args.driver.now c.receive.new.driver
    c.in-Ok.received c.is_ended.result c.is_ended.ensures.own (FirstThen IsWritten IsCollected) (All Carries) c.in-Ok.ensures
    written_carries

pub returns-in-Err : goal.returns-in-Err
returns-in-Err g c =
    failed g.row.T-Heap.Denot g.D.Device.logs c.args.form c.args.device.now c.receive.new.device
    (g.W.Write.contents c.args.out.now, c.args.notes.now.is_wrong) (g.W.Write.contents c.receive.new.out, c.receive.new.notes.is_wrong) c.args.driver.now c.receive.new.driver
    c.in-Err.stop _ (All Carries) c.in-Err.ensures (failed_carries (FirstThen IsWritten IsCollected) written_carries)
