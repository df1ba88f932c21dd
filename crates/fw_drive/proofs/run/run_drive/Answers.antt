use Rattle.std.proofs.Common.{[], ℕ, List, inl, inr, refl, subst}
use Rattle.driven_sessions.proofs.Rules.{keeps_rules}
use Rattle.fk_drive.specs.Driving.{first_driven, nothing}
use Rattle.fw_drive.specs.DriveLines.{IsGoodDriveScript}
use Rattle.fw_drive.specs.Judging.{SaysFirstFault}
use Rattle.fw_drive.specs.Runs.{RunsScript}
use Rattle.fw_drive.proofs.KnownScripts.{good_or, of_known}
use Rattle.fw_drive.proofs.Mounting.{moves_keep_rules}
use Rattle.fw_drive.proofs.StopStatuses.{unread_among, unread_either, unread_never}
use Rattle.fw_drive.proofs.run.run_drive.Goals as goal

pub returns-in-Err-clause-drives : goal.returns-in-Err-clause-drives
returns-in-Err-clause-drives g c =
    (first_driven c.args.task.opens_directories, ([], g.met.D.Device.stays c.args.device.now, nothing))

pub returns-in-Err-clause-moves : goal.returns-in-Err-clause-moves
returns-in-Err-clause-moves g c = inr (refl, refl, unread_either c.in-Err.status c.in-Err.ensures.statuses)

pub returns-in-Ok-clause-moves : goal.returns-in-Ok-clause-moves
returns-in-Ok-clause-moves g c =
    let Are = RunsScript g.row.A.Denot g.D.Device.logs c.args.device.now c.run_text.new.device
    (g.W.Write.contents c.args.out.now) (g.W.Write.contents c.run_text.new.out) c.args.task.form
    c.args.task.opens_directories c.args.task.is_report_only c.run_text.result in
    good_or Are (g.R.Read.remaining c.args.input.now) c.in-Ok.text.items c.as_slice.result.now _
    c.as_slice.ensures.value c.in-Ok.ensures.ok c.run_text.ensures.moves

pub returns-in-Err-clause-statuses : goal.returns-in-Err-clause-statuses
returns-in-Err-clause-statuses g c = unread_among c.in-Err.status c.in-Err.ensures.statuses

pub returns-in-Err-clause-judged : goal.returns-in-Err-clause-judged
returns-in-Err-clause-judged g c run = absurd (unread_never c.in-Err.status c.in-Err.ensures.statuses run)

pub returns-in-Err-clause-unsent : goal.returns-in-Err-clause-unsent
returns-in-Err-clause-unsent g c = inr (refl, refl)

pub returns-in-Ok-clause-unsent : goal.returns-in-Ok-clause-unsent
returns-in-Ok-clause-unsent g c =
    let IsGood = IsGoodDriveScript c.args.task.form in
    good_or IsGood (g.R.Read.remaining c.args.input.now) c.in-Ok.text.items c.as_slice.result.now _
    c.as_slice.ensures.value c.in-Ok.ensures.ok c.run_text.ensures.unsent

pub returns-in-Err-clause-no_fault : goal.returns-in-Err-clause-no_fault
returns-in-Err-clause-no_fault g c run = absurd (unread_never c.in-Err.status c.in-Err.ensures.statuses run)

pub returns-in-Err-clause-fault : goal.returns-in-Err-clause-fault
returns-in-Err-clause-fault g c one = inl (c.in-Err.ensures.unreadable one)

pub returns-in-Ok-clause-judged : goal.returns-in-Ok-clause-judged
returns-in-Ok-clause-judged g c run =
    let IsGood = IsGoodDriveScript c.args.task.form in
    of_known IsGood (g.R.Read.remaining c.args.input.now) c.in-Ok.text.items c.in-Ok.ensures.ok
    (subst IsGood c.as_slice.ensures.value (c.run_text.ensures.judged run))

pub returns-in-Ok-clause-fault : goal.returns-in-Ok-clause-fault
returns-in-Ok-clause-fault g c one =
    let HasFault : List ℕ → Type 0 =
    λ s. SaysFirstFault c.args.task.form s (g.F.Write.contents c.read_script.new.faults)
    (g.F.Write.contents c.run_text.new.faults) in
    inr (rw c.in-Ok.ensures.silent at (of_known HasFault (g.R.Read.remaining c.args.input.now) c.in-Ok.text.items
    c.in-Ok.ensures.ok (subst HasFault c.as_slice.ensures.value (c.run_text.ensures.fault one))))

pub returns-in-Err-clause-rules : goal.returns-in-Err-clause-rules
returns-in-Err-clause-rules g c =
    keeps_rules g.D.Device.logs c.args.device.now c.args.device.now c.args.task.opens_directories
    (returns-in-Err-clause-drives g c)

pub returns-in-Ok-clause-rules : goal.returns-in-Ok-clause-rules
returns-in-Ok-clause-rules g c =
    keeps_rules g.D.Device.logs c.args.device.now c.run_text.new.device c.args.task.opens_directories c.run_text.ensures.drives

pub returns-in-Ok-clause-rules_of_moves : goal.returns-in-Ok-clause-rules_of_moves
returns-in-Ok-clause-rules_of_moves g c = moves_keep_rules g.row.A.Denot c.args.task.opens_directories

pub returns-in-Err-clause-rules_of_moves : goal.returns-in-Err-clause-rules_of_moves
returns-in-Err-clause-rules_of_moves g c = moves_keep_rules g.row.A.Denot c.args.task.opens_directories
