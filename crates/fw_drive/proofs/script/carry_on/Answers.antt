use Rattle.std.specs.Prelude.{All}
use Rattle.std.proofs.lemmas.List.Elements.{All-nil, All-weaker}
use Rattle.fw_drive.specs.LineMoves.{Carries, MayFollow}
use Rattle.fw_drive.proofs.Following.{none_goes, weaker}
use Rattle.fw_drive.proofs.LineRuns.{carries_follows}
use Rattle.fw_drive.proofs.script.carry_on.Goals as goal

pub returns-then-is_of_calls : goal.returns-then-is_of_calls
returns-then-is_of_calls g c =
    weaker g.row.T-Heap.Denot g.D.Device.logs c.args.form c.args.device.now c.carry.new.device
    (g.W.Write.contents c.args.out.now, c.args.notes.now.is_wrong) (g.W.Write.contents c.carry.new.out, c.carry.new.notes.is_wrong) c.args.driver.now c.carry.new.driver
    c.carry.result (All Carries) (All (MayFollow c.args.form)) c.carry.ensures
    (All-weaker Carries (MayFollow c.args.form) (carries_follows c.args.form (c.is_of_calls.ensures.0 c.if-is_of_calls.true)))

pub returns-else-is_of_calls : goal.returns-else-is_of_calls
returns-else-is_of_calls g c =
    none_goes g.row.T-Heap.Denot g.D.Device.logs g.met.D.Device.stays c.args.form c.args.device.now
    (g.W.Write.contents c.args.out.now, c.args.notes.now.is_wrong) c.args.driver.now _ tt (All (MayFollow c.args.form))
    (All-nil (MayFollow c.args.form))
