use Rattle.std.proofs.Common.{[], List, ℕ, append-nil, refl, subst, sym}
use Rattle.std.specs.Prelude.{Ok, Result}
use Rattle.fw_drive.specs.Findings.{Told}
use Rattle.fw_drive.specs.LineMoves.{FirstThen, IsCollected, IsEvent, IsMoveOf, IsSentBy, IsWritten, Perhaps}
use Rattle.fw_drive.specs.Printed.{Gets}
use Rattle.fw_drive.specs.Runs.{GoesAlone, NothingOver}
use Rattle.fw_drive.specs.declared.line.DriveLine.{DriveLine}
use Rattle.fw_drive.specs.declared.line.DriveLine.TheVariants as line
use Rattle.fw_drive.specs.declared.stop.Stop.{Stop}
use Rattle.fw_world.specs.declared.event.Event.TheVariants as event
use Rattle.fk_syscalls.specs.declared.call.Call.TheVariants as call
use Rattle.fw_drive.proofs.Following.{failed, given, kept_alone, lifts, shows_nodes, weaker}
use Rattle.fw_drive.proofs.LineRuns.{as_line_move, failed_line, said_line}
use Rattle.fw_drive.proofs.Texts.{said_collected}
use Rattle.fw_drive.proofs.script.run_line.Goals as goal

pub returns-in-Event : goal.returns-in-Event
returns-in-Event g c =
    let r = c.act.result in
    let Is = FirstThen (IsEvent c.in-Event.event) IsCollected in
    let had : Told = (g.W.Write.contents c.args.out.now, c.args.notes.now.is_wrong) in
    let has : Told = (g.W.Write.contents c.act.new.out, c.act.new.notes.is_wrong) in
    lifts g.row.T-Heap.Denot g.D.Device.logs g.met.D.Device.stays c.args.form c.args.device.now had has c.args.driver.now
    c.act.new.driver r (Perhaps r (FirstThen (IsMoveOf c.args.line) IsCollected))
    (weaker g.row.T-Heap.Denot NothingOver c.args.form tt tt had has c.args.driver.now c.act.new.driver r Is
    (Perhaps r (FirstThen (IsMoveOf c.args.line) IsCollected)) (c.act.ensures c.args.form)
    (as_line_move r c.args.line (line.Event c.in-Event.event) (IsEvent c.in-Event.event) c.in-Event.is (λ move is. is)))

pub returns-in-Open : goal.returns-in-Open
returns-in-Open g c =
    let r = c.act-in-Open.result in
    let opened = event.Call (call.Open c.in-Open.path) in
    let had : Told = (g.W.Write.contents c.args.out.now, c.args.notes.now.is_wrong) in
    let has : Told = (g.W.Write.contents c.act-in-Open.new.out, c.act-in-Open.new.notes.is_wrong) in
    lifts g.row.T-Heap.Denot g.D.Device.logs g.met.D.Device.stays c.args.form c.args.device.now had has c.args.driver.now
    c.act-in-Open.new.driver r (Perhaps r (FirstThen (IsMoveOf c.args.line) IsCollected))
    (kept_alone g.row.T-Heap.Denot c.args.form had has c.args.driver.now c.open_with.new.self c.act-in-Open.new.driver r
    (Perhaps r (FirstThen (IsMoveOf c.args.line) IsCollected)) c.open_with.ensures
    (weaker g.row.T-Heap.Denot NothingOver c.args.form tt tt had has c.open_with.new.self c.act-in-Open.new.driver r
    (FirstThen (IsEvent opened) IsCollected) (Perhaps r (FirstThen (IsMoveOf c.args.line) IsCollected))
    (c.act-in-Open.ensures c.args.form)
    (as_line_move r c.args.line (line.Open c.in-Open.path c.in-Open.flags) (IsEvent opened) c.in-Open.is (λ move is. is))))

pub returns-in-CallWrite : goal.returns-in-CallWrite
returns-in-CallWrite g c =
    let r = c.begin_write.result in
    let had : Told = (g.W.Write.contents c.args.out.now, c.args.notes.now.is_wrong) in
    let has : Told = (g.W.Write.contents c.begin_write.new.out, c.begin_write.new.notes.is_wrong) in
    lifts g.row.T-Heap.Denot g.D.Device.logs g.met.D.Device.stays c.args.form c.args.device.now had has c.args.driver.now
    c.begin_write.new.driver r (Perhaps r (FirstThen (IsMoveOf c.args.line) IsCollected))
    (subst (λ (l : DriveLine). GoesAlone g.row.T-Heap.Denot c.args.form had has c.args.driver.now c.begin_write.new.driver r
    (Perhaps r (FirstThen (IsMoveOf l) IsCollected))) (sym c.in-CallWrite.is) (c.begin_write.ensures c.args.form))

pub returns-in-Ok : goal.returns-in-Ok
returns-in-Ok g c =
    let r : Result (Unit {0}) Stop = Ok tt in
    given g.row.T-Heap.Denot g.D.Device.logs c.args.form c.args.device.now c.send.new.device
    (g.W.Write.contents c.args.out.now, c.args.notes.now.is_wrong) (g.W.Write.contents c.send.new.out, c.send.new.notes.is_wrong) c.args.driver.now c.send.new.driver _ r tt
    (FirstThen (IsSentBy c.in-Read.pick) IsCollected) _ c.in-Ok.ensures
    (as_line_move r c.args.line (line.Read c.in-Read.pick) (IsSentBy c.in-Read.pick) c.in-Read.is (λ move is. is))

pub returns-in-Err : goal.returns-in-Err
returns-in-Err g c =
    failed g.row.T-Heap.Denot g.D.Device.logs c.args.form c.args.device.now c.send.new.device
    (g.W.Write.contents c.args.out.now, c.args.notes.now.is_wrong) (g.W.Write.contents c.send.new.out, c.send.new.notes.is_wrong) c.args.driver.now c.send.new.driver c.in-Err.stop
    _ _ c.in-Err.ensures
    (failed_line c.args.line (line.Read c.in-Read.pick) (IsSentBy c.in-Read.pick) c.in-Read.is (λ move is. is))

pub returns-in-Ok-receive : goal.returns-in-Ok-receive
returns-in-Ok-receive g c =
    let r : Result (Unit {0}) Stop = Ok tt in
    given g.row.T-Heap.Denot g.D.Device.logs c.args.form c.args.device.now c.receive.new.device
    (g.W.Write.contents c.args.out.now, c.args.notes.now.is_wrong) (g.W.Write.contents c.receive.new.out, c.receive.new.notes.is_wrong) c.args.driver.now c.receive.new.driver _ r tt
    (FirstThen IsWritten IsCollected) _ c.in-Ok-receive.ensures
    (as_line_move r c.args.line line.Write IsWritten c.in-Write.is (λ move is. is))

pub returns-in-Err-receive : goal.returns-in-Err-receive
returns-in-Err-receive g c =
    failed g.row.T-Heap.Denot g.D.Device.logs c.args.form c.args.device.now c.receive.new.device
    (g.W.Write.contents c.args.out.now, c.args.notes.now.is_wrong) (g.W.Write.contents c.receive.new.out, c.receive.new.notes.is_wrong) c.args.driver.now c.receive.new.driver
    c.in-Err-receive.stop _ _ c.in-Err-receive.ensures
    (failed_line c.args.line line.Write IsWritten c.in-Write.is (λ move is. is))

pub returns-in-Show : goal.returns-in-Show
returns-in-Show g c =
    let had = g.W.Write.contents c.args.out.now in
    let has = g.W.Write.contents c.show.new.out in
    let told = c.args.notes.now.is_wrong in
    said_line g.row.T-Heap.Denot g.D.Device.logs c.args.form c.args.device.now (had, told) (has, told) c.args.driver.now
    c.show.result c.args.line line.Show c.in-Show.is
    (shows_nodes g.row.T-Heap.Denot g.D.Device.logs g.met.D.Device.stays c.args.form c.args.device.now had has told
    c.args.driver.now c.show.result c.show.ensures.own IsCollected [] (said_collected [])
    (subst (λ (l : List ℕ). Gets c.show.result had has l) (sym (append-nil _)) c.show.ensures.printed) refl)
