use Rattle.std.specs.Prelude.{All}
use Rattle.std.proofs.lemmas.List.Elements.{All-append}
use Rattle.fw_drive.specs.LineMoves.{Carries}
use Rattle.fw_drive.proofs.Following.{failed, then}
use Rattle.fw_drive.proofs.carried_calls.carry.Goals as goal

pub returns-in-Ok : goal.returns-in-Ok
returns-in-Ok g c =
    then g.row.T-Heap.Denot g.D.Device.logs g.met.D.Device.goes_on c.args.form c.args.device.now c.carry_all.new.device
    c.carry_all-in-Ok.new.device (g.W.Write.contents c.args.out.now, c.args.notes.now.is_wrong) (g.W.Write.contents c.carry_all.new.out, c.carry_all.new.notes.is_wrong)
    (g.W.Write.contents c.carry_all-in-Ok.new.out, c.carry_all-in-Ok.new.notes.is_wrong) c.args.driver.now c.carry_all.new.driver c.carry_all-in-Ok.new.driver _
    c.carry_all-in-Ok.result (All Carries) (All Carries) (All Carries) c.in-Ok.ensures c.carry_all-in-Ok.ensures
    (All-append Carries)

pub returns-in-Err : goal.returns-in-Err
returns-in-Err g c =
    failed g.row.T-Heap.Denot g.D.Device.logs c.args.form c.args.device.now c.carry_all.new.device
    (g.W.Write.contents c.args.out.now, c.args.notes.now.is_wrong) (g.W.Write.contents c.carry_all.new.out, c.carry_all.new.notes.is_wrong) c.args.driver.now c.carry_all.new.driver
    c.in-Err.stop (All Carries) (All Carries) c.in-Err.ensures (λ m are. are)
