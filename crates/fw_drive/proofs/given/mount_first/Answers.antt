use Rattle.fw_drive.specs.DriveLines.{IsOfCalls}
use Rattle.fw_drive.specs.LineMoves.{Carries, FirstThen, IsMoveOf, LinesMove, mount_line, mount_lines}
use Rattle.fw_drive.proofs.Following.{failed, handed_on}
use Rattle.fw_drive.proofs.LineRuns.{mounted}
use Rattle.fw_drive.proofs.SourceRuns.{none_mounted}
use Rattle.fw_drive.proofs.Texts.{own_result}
use Rattle.fw_drive.proofs.given.mount_first.Goals as goal

pub returns-then-not-is_of_calls : goal.returns-then-not-is_of_calls
returns-then-not-is_of_calls g c =
    let never : IsOfCalls c.args.form → ⊥ = λ of_calls. cc (c.is_of_calls.ensures.1 of_calls, c.if-not-is_of_calls.true) in
    none_mounted g.row.T-Heap.Denot g.D.Device.logs c.args.form g.met.D.Device.stays never c.args.device.now
    (g.W.Write.contents c.args.out.now, c.args.notes.now.is_wrong) c.args.driver.now

pub returns-in-Ok : goal.returns-in-Ok
returns-in-Ok g c =
    let of_calls : IsOfCalls c.args.form = c.is_of_calls.ensures.0 c.if-not-is_of_calls.false in
    handed_on g.row.T-Heap.Denot g.D.Device.logs c.args.form c.args.device.now c.mount.new.device
    (g.W.Write.contents c.args.out.now, c.args.notes.now.is_wrong) (g.W.Write.contents c.mount.new.out) (g.W.Write.contents c.flush.new.out) c.mount.new.notes.is_wrong
    c.args.driver.now c.mount.new.driver _ c.flush.result (own_result c.flush.result c.flush.ensures.own)
    (FirstThen (IsMoveOf mount_line) Carries) (LinesMove c.args.form (mount_lines c.args.form)) c.in-Ok.ensures
    c.flush.ensures.keeps (mounted c.args.form of_calls)

pub returns-in-Err : goal.returns-in-Err
returns-in-Err g c =
    let of_calls : IsOfCalls c.args.form = c.is_of_calls.ensures.0 c.if-not-is_of_calls.false in
    failed g.row.T-Heap.Denot g.D.Device.logs c.args.form c.args.device.now c.mount.new.device
    (g.W.Write.contents c.args.out.now, c.args.notes.now.is_wrong) (g.W.Write.contents c.mount.new.out, c.mount.new.notes.is_wrong) c.args.driver.now c.mount.new.driver
    c.in-Err.stop (FirstThen (IsMoveOf mount_line) Carries) (LinesMove c.args.form (mount_lines c.args.form))
    c.in-Err.ensures (mounted c.args.form of_calls)
