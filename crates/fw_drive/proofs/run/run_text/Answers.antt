use Rattle.std.proofs.Common.{◌≡◌, [], inl, inr, refl, subst, sym}
use Rattle.std.specs.Prelude.{IfErr, OnOk, Result}
use Rattle.fk_drive.specs.Driving.{first_driven, nothing}
use Rattle.fw_drive.specs.Findings.{end_status}
use Rattle.fw_drive.specs.Runs.{IsStopStatus, SaysStop}
use Rattle.fw_drive.specs.declared.stop.Stop.{Stop}
use Rattle.fw_drive.proofs.Following.{goes_drive, runs_script}
use Rattle.fw_drive.proofs.StopStatuses.{among_all, bad_among, bad_either, bad_at_1, bad_at_3, end_among, end_not_1, end_not_3, never_0, never_1, or_6, stop_among, unread_among, unread_never}
use Rattle.fw_drive.proofs.run.run_text.Goals as goal

pub returns-in-Err-clause-statuses : goal.returns-in-Err-clause-statuses
returns-in-Err-clause-statuses g c =
    unread_among c.say.result (bad_among c.in-Err.bad c.say.result c.say.ensures.status)

pub returns-in-Err-clause-judged : goal.returns-in-Err-clause-judged
returns-in-Err-clause-judged g c run =
    absurd (unread_never c.say.result (bad_among c.in-Err.bad c.say.result c.say.ensures.status) run)

pub returns-in-Err-clause-unsent : goal.returns-in-Err-clause-unsent
returns-in-Err-clause-unsent g c = inr (refl, refl)

pub returns-in-Err-clause-fault : goal.returns-in-Err-clause-fault
returns-in-Err-clause-fault g c one =
    bad_at_1 c.args.task.form c.args.script.now c.in-Err.bad c.say.result c.say.ensures.status c.in-Err.ensures.refused _ _
    c.say.ensures.said one

pub returns-in-Err-clause-no_memory : goal.returns-in-Err-clause-no_memory
returns-in-Err-clause-no_memory g c three =
    bad_at_3 c.in-Err.bad c.say.result c.say.ensures.status _ _ c.say.ensures.said three

pub returns-in-Err-clause-no_fault : goal.returns-in-Err-clause-no_fault
returns-in-Err-clause-no_fault g c run =
    absurd (unread_never c.say.result (bad_among c.in-Err.bad c.say.result c.say.ensures.status) run)

pub returns-in-Err-clause-moves : goal.returns-in-Err-clause-moves
returns-in-Err-clause-moves g c = inr (refl, refl, bad_either c.in-Err.bad c.say.result c.say.ensures.status)

pub returns-in-Ok-ended-clause-drives : goal.returns-in-Ok-ended-clause-drives
returns-in-Ok-ended-clause-drives g c =
    goes_drive _ g.D.Device.logs c.args.task.form c.args.device.now c.run_good-ended.new.device _ _
    (first_driven c.args.task.opens_directories) _ c.run_good-ended.result.0 _ refl refl c.run_good-ended.ensures.1

pub returns-clause-drives : goal.returns-clause-drives
returns-clause-drives g c =
    goes_drive _ g.D.Device.logs c.args.task.form c.args.device.now c.run_good-ended.new.device _ _
    (first_driven c.args.task.opens_directories) _ c.run_good-ended.result.0 _ refl refl c.run_good-ended.ensures.1

pub returns-in-Ok-ended-clause-moves : goal.returns-in-Ok-ended-clause-moves
returns-in-Ok-ended-clause-moves g c =
    let has = g.W.Write.contents c.run_good-ended.new.out in
    let r = c.run_good-ended.result.0 in
    let told = c.run_good-ended.result.1 in
    let waits = c.run_good-ended.result.2 in
    let s = c.status_at_end.result in
    inl (runs_script _ g.D.Device.logs c.args.device.now c.run_good-ended.new.device (g.W.Write.contents c.args.out.now)
    (has, told) has c.args.task.form c.args.task.opens_directories c.args.task.is_report_only c.args.script.now
    c.in-Ok.lines.items c.as_slice.result.now c.as_slice.ensures.value c.in-Ok.ensures.say r s
    (subst (λ (t : Result (Unit {0}) Stop). OnOk t (s ≡ end_status c.args.task.is_report_only told)) (sym c.in-Ok-ended.is)
    c.status_at_end.ensures)
    (subst (λ (t : Result (Unit {0}) Stop). IfErr t (λ stop. IsStopStatus stop s)) (sym c.in-Ok-ended.is) tt)
    waits
    (subst (λ (t : Result (Unit {0}) Stop). SaysStop g.row.A.Denot waits t s has has) (sym c.in-Ok-ended.is) refl)
    c.run_good-ended.ensures)

pub returns-clause-moves : goal.returns-clause-moves
returns-clause-moves g c =
    let got = g.W.Write.contents c.run_good-ended.new.out in
    let has = g.W.Write.contents c.report.new.out in
    let r = c.run_good-ended.result.0 in
    let told = c.run_good-ended.result.1 in
    let waits = c.run_good-ended.result.2 in
    let s = c.report.result in
    inl (runs_script _ g.D.Device.logs c.args.device.now c.run_good-ended.new.device (g.W.Write.contents c.args.out.now)
    (got, told) has c.args.task.form c.args.task.opens_directories c.args.task.is_report_only c.args.script.now
    c.in-Ok.lines.items c.as_slice.result.now c.as_slice.ensures.value c.in-Ok.ensures.say r s
    (subst (λ (t : Result (Unit {0}) Stop). OnOk t (s ≡ end_status c.args.task.is_report_only told)) (sym c.in-Err-ended.is) tt)
    (subst (λ (t : Result (Unit {0}) Stop). IfErr t (λ stop. IsStopStatus stop s)) (sym c.in-Err-ended.is)
    c.report.ensures.status)
    waits
    (subst (λ (t : Result (Unit {0}) Stop). SaysStop g.row.A.Denot waits t s got has) (sym c.in-Err-ended.is) c.report.ensures.says)
    c.run_good-ended.ensures)

pub returns-in-Ok-ended-clause-statuses : goal.returns-in-Ok-ended-clause-statuses
returns-in-Ok-ended-clause-statuses g c =
    end_among c.args.task.is_report_only c.run_good-ended.result.1 c.status_at_end.result c.status_at_end.ensures

pub returns-in-Ok-ended-clause-unrun : goal.returns-in-Ok-ended-clause-unrun
returns-in-Ok-ended-clause-unrun g c one =
    absurd (end_not_1 c.args.task.is_report_only c.run_good-ended.result.1 c.status_at_end.result c.status_at_end.ensures one)

pub returns-in-Ok-ended-clause-silent : goal.returns-in-Ok-ended-clause-silent
returns-in-Ok-ended-clause-silent g c one =
    absurd (end_not_1 c.args.task.is_report_only c.run_good-ended.result.1 c.status_at_end.result c.status_at_end.ensures one)

pub returns-in-Ok-ended-clause-fault : goal.returns-in-Ok-ended-clause-fault
returns-in-Ok-ended-clause-fault g c one =
    absurd (end_not_1 c.args.task.is_report_only c.run_good-ended.result.1 c.status_at_end.result c.status_at_end.ensures one)

pub returns-in-Ok-ended-clause-no_memory : goal.returns-in-Ok-ended-clause-no_memory
returns-in-Ok-ended-clause-no_memory g c three =
    absurd (end_not_3 c.args.task.is_report_only c.run_good-ended.result.1 c.status_at_end.result c.status_at_end.ensures three)

pub returns-in-Err-clause-drives : goal.returns-in-Err-clause-drives
returns-in-Err-clause-drives g c =
    (first_driven c.args.task.opens_directories, ([], g.met.D.Device.stays c.args.device.now, nothing))

pub returns-clause-statuses : goal.returns-clause-statuses
returns-clause-statuses g c = among_all c.report.result (stop_among c.in-Err-ended.stop c.report.result c.report.ensures.status)

pub returns-clause-unrun : goal.returns-clause-unrun
returns-clause-unrun g c one = absurd (never_1 c.report.result (stop_among c.in-Err-ended.stop c.report.result c.report.ensures.status) one)

pub returns-clause-silent : goal.returns-clause-silent
returns-clause-silent g c one = absurd (never_1 c.report.result (stop_among c.in-Err-ended.stop c.report.result c.report.ensures.status) one)

pub returns-clause-fault : goal.returns-clause-fault
returns-clause-fault g c one = absurd (never_1 c.report.result (stop_among c.in-Err-ended.stop c.report.result c.report.ensures.status) one)

pub returns-clause-no_fault : goal.returns-clause-no_fault
returns-clause-no_fault g c (inl none) = absurd (never_0 c.report.result (stop_among c.in-Err-ended.stop c.report.result c.report.ensures.status) none)
returns-clause-no_fault g c (inr run) =
    c.report.ensures.no_fault (or_6 c.report.result (stop_among c.in-Err-ended.stop c.report.result c.report.ensures.status) run)
