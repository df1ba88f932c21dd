use Rattle.std.specs.Prelude.{All}
use Rattle.fw_drive.specs.LineMoves.{Carries, FirstThen, IsCollected, IsMoveOf, mount_line}
use Rattle.fw_drive.proofs.Following.{failed, lifts, then}
use Rattle.fw_drive.proofs.LineRuns.{collected_carries, first_on, first_weaker}
use Rattle.fw_drive.proofs.carried_calls.mount.Goals as goal

pub returns-in-Ok : goal.returns-in-Ok
returns-in-Ok g c =
    let First = IsMoveOf mount_line in
    then g.row.T-Heap.Denot g.D.Device.logs g.met.D.Device.goes_on c.args.form c.args.device.now c.args.device.now
    c.carry.new.device (g.W.Write.contents c.args.out.now, c.args.notes.now.is_wrong) (g.W.Write.contents c.act.new.out, c.act.new.notes.is_wrong)
    (g.W.Write.contents c.carry.new.out, c.carry.new.notes.is_wrong) c.args.driver.now c.act.new.driver c.carry.new.driver _ c.carry.result
    (FirstThen First IsCollected) (All Carries) (FirstThen First Carries)
    (lifts g.row.T-Heap.Denot g.D.Device.logs g.met.D.Device.stays c.args.form c.args.device.now
    (g.W.Write.contents c.args.out.now, c.args.notes.now.is_wrong) (g.W.Write.contents c.act.new.out, c.act.new.notes.is_wrong) c.args.driver.now c.act.new.driver _
    (FirstThen First IsCollected) (c.in-Ok.ensures c.args.form)) c.carry.ensures
    (λ m n first rest. first_on First Carries m n (first_weaker First First IsCollected Carries (λ move is. is) collected_carries m first) rest)

pub returns-in-Err : goal.returns-in-Err
returns-in-Err g c =
    let First = IsMoveOf mount_line in
    failed g.row.T-Heap.Denot g.D.Device.logs c.args.form c.args.device.now c.args.device.now
    (g.W.Write.contents c.args.out.now, c.args.notes.now.is_wrong) (g.W.Write.contents c.act.new.out, c.act.new.notes.is_wrong) c.args.driver.now c.act.new.driver c.in-Err.stop
    (FirstThen First IsCollected) (FirstThen First Carries)
    (lifts g.row.T-Heap.Denot g.D.Device.logs g.met.D.Device.stays c.args.form c.args.device.now
    (g.W.Write.contents c.args.out.now, c.args.notes.now.is_wrong) (g.W.Write.contents c.act.new.out, c.act.new.notes.is_wrong) c.args.driver.now c.act.new.driver _
    (FirstThen First IsCollected) (c.in-Err.ensures c.args.form))
    (first_weaker First First IsCollected Carries (λ move is. is) collected_carries)
